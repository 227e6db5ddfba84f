-- the dimensions before place i are crossed
use Rattle.std.proofs.Common.{◌≡◌, length}
use Rattle.model.specs.Draw.{drawn}
use Rattle.model.specs.Setting.{max_dims, children, cross_all, dimensions_of}
use Rattle.settings.specs.Candidate.{settings_of}
use Rattle.candidate_operators.proofs.cross_all.Given as goal

abbrev pub invariant-loop-i : goal.invariant-loop-i
invariant-loop-i l = record {
  first_size : length l.first ≡ max_dims;
  second_size : length l.second ≡ max_dims;
  so_far : drawn (children (settings_of l.first l.i) (settings_of l.second l.i)) l.rng.s
      ≡ cross_all (dimensions_of l.dims) l.i (settings_of l.fn.p l.n) (settings_of l.fn.q l.n) l.k l.initial.rng.s;
}
