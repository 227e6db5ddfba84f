use Rattle.std.proofs.Common.{◌≡◌, ℕ, ◌<◌, length, Float, ap, subst, arith, length-set}
use Rattle.model.specs.Real.{◌⊘◌, unit}
use Rattle.model.specs.Draw.{drawn}
use Rattle.model.specs.Setting.{mutate_first, dimensions_of}
use Rattle.settings.specs.Candidate.{settings_of}
use Rattle.settings.proofs.Valid.{few, each}
use Rattle.settings.proofs.Candidates.{candidate_none, candidate_more}
use Rattle.candidate_operators.proofs.Places.{setting-at, mutated_as}
use Rattle.candidate_operators.proofs.mutate.Goals as goal

pub loop-i-init : goal.loop-i-init
loop-i-init c = record { few = few _ _ c.requires; size = c.well_formed.1.1.0.1.0.1; so_far = candidate_none _ _ _ }

pub mutate_maybe-v-requires : goal.mutate_maybe-v-requires
mutate_maybe-v-requires c = each _ _ c.requires c.loop-i.i c.loop-i-test.true

pub loop-i-preserved : goal.loop-i-preserved
loop-i-preserved c =
    let l = c.loop-i in
    let a = c.args in
    let room : l.i < length l.out = omega arith in record {
      few = l.invariant.few;
      size = simp length-set l.invariant.size;
      so_far = candidate_more _ l.out l.i _ room l.invariant.so_far
          (mutated_as (dimensions_of a.dims l.i) _ l.rng.s c.mutate_maybe-v.ensures
          (ap (λ (x : Float). unit ⊘ x) c.nearest_u64_to_f64-probability.ensures) (setting-at a.params a.n l.i c.loop-i-test.true));
    }

pub returns : goal.returns
returns c =
    let l = c.loop-i in
    let a = c.args in
    let e : l.i ≡ a.n = omega arith in
    subst (λ (m : ℕ). drawn (settings_of l.out m) l.rng.s ≡ mutate_first (dimensions_of a.dims) a.n m (settings_of a.params a.n) a.k a.rng.s) e l.invariant.so_far
