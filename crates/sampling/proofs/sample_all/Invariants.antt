-- the settings before place i are drawn
use Rattle.std.proofs.Common.{◌≡◌, ◌≤◌, length}
use Rattle.model.specs.Draw.{drawn}
use Rattle.model.specs.Setting.{max_dims, sample_all, dimensions_of}
use Rattle.settings.specs.Candidate.{settings_of}
use Rattle.sampling.proofs.sample_all.Given as goal

abbrev pub invariant-loop-i : goal.invariant-loop-i
invariant-loop-i l = record {
  few : l.n ≤ max_dims;
  size : length l.params ≡ max_dims;
  so_far : drawn (settings_of l.params l.i) l.rng.s ≡ sample_all (dimensions_of l.dims) l.i l.initial.rng.s;
}
