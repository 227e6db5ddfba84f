-- the first `at` places are drawn
use Rattle.model.specs.Draw.{draw_usize}
use Rattle.list_laws.proofs.Written.{WrittenNumbers}
use Rattle.selection_lists.proofs.pad.Given as goal

abbrev pub invariant-loop-at : goal.invariant-loop-at
invariant-loop-at l = WrittenNumbers (λ place listed. draw_usize l.n) l.initial.rng.s l.initial.out l.at l.out l.rng.s
