-- as many numbers as the loop has turned are copied so far, read up to p
use Rattle.model.specs.PoolFile.{number, many}
use Rattle.convert_rows.specs.Copied.{Copied}
use Rattle.convert_rows.proofs.copy_numbers.Given as goal

abbrev pub invariant-loop : goal.invariant-loop
invariant-loop l = Copied (many l.counter number) (λ n. n) l.file l.at l.initial.out l.initial.to l.out l.to l.p
