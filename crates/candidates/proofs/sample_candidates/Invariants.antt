-- the first i candidates are laid
use Rattle.std.proofs.Common.{◌*◌}
use Rattle.model.specs.Setting.{sample_candidates, dimensions_of}
use Rattle.candidates.proofs.Laid.{LaidOut}
use Rattle.candidates.proofs.sample_candidates.Given as goal

abbrev pub invariant-loop-i : goal.invariant-loop-i
invariant-loop-i l = LaidOut l.initial.out (l.i * l.n) (sample_candidates (dimensions_of l.dims) l.n l.i l.initial.rng.s) l.out l.rng.s
