-- i plans are turned so far, read up to p
use Rattle.model.specs.PoolFile.{many, rows}
use Rattle.convert_rows.specs.Copied.{Copied}
use Rattle.convert_plans.specs.Turned.{numbered_all}
use Rattle.convert_plans.proofs.number_plans.Given as goal

abbrev pub invariant-loop-i : goal.invariant-loop-i
invariant-loop-i l = Copied (many l.i (rows l.m)) numbered_all l.file l.at l.initial.out l.initial.to l.out l.to l.p
