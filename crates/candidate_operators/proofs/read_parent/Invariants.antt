-- the settings before place j are read
use Rattle.std.proofs.Common.{◌≡◌, length}
use Rattle.model.specs.Lists.{list_below}
use Rattle.model.specs.Setting.{max_dims, dimensions_of, stored_at}
use Rattle.settings.specs.Candidate.{settings_of}
use Rattle.candidate_operators.proofs.read_parent.Given as goal

abbrev pub invariant-loop-j : goal.invariant-loop-j
invariant-loop-j l = record {
  size : length l.params ≡ max_dims;
  so_far : settings_of l.params l.j ≡ list_below (stored_at (dimensions_of l.dims) l.n l.parents l.p) l.j;
}
