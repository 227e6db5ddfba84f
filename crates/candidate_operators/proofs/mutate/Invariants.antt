-- the dimensions before place i are mutated
use Rattle.std.proofs.Common.{◌≡◌, ◌≤◌, length}
use Rattle.model.specs.Draw.{drawn}
use Rattle.model.specs.Setting.{max_dims, mutate_first, dimensions_of}
use Rattle.settings.specs.Candidate.{settings_of}
use Rattle.candidate_operators.proofs.mutate.Given as goal

abbrev pub invariant-loop-i : goal.invariant-loop-i
invariant-loop-i l = record {
  few : l.n ≤ max_dims;
  size : length l.out ≡ max_dims;
  so_far : drawn (settings_of l.out l.i) l.rng.s ≡ mutate_first (dimensions_of l.dims) l.n l.i (settings_of l.params l.n) l.k l.initial.rng.s;
}
