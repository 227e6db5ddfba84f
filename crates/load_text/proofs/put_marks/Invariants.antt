-- as many marks as turns were made are put
use lib.ListN.{replicate}
use Rattle.model.specs.PoolFile.{written_all}
use Rattle.pool_form.specs.Form.{Adds}
use Rattle.load_text.proofs.put_marks.Given as goal

abbrev pub invariant-loop : goal.invariant-loop
invariant-loop l = Adds (written_all (replicate l.counter 0)) l.initial.out l.initial.at l.out l.at
