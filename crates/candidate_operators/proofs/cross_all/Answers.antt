use Rattle.std.proofs.Common.{◌≡◌, ℕ, ◌<◌, List, length, ◌∙◌, subst, ap₂, arith, length-set}
use Rattle.model.specs.declared.ParamValue.{ParamValue}
use Rattle.model.specs.Draw.{drawn}
use Rattle.model.specs.Setting.{children, cross_all, dimensions_of}
use Rattle.settings.specs.Candidate.{settings_of}
use Rattle.settings.proofs.Candidates.{settings-more}
use Rattle.candidate_operators.proofs.Places.{setting-at, cross_all_none, cross_all-more}
use Rattle.candidate_operators.proofs.cross_all.Goals as goal

pub loop-i-init : goal.loop-i-init
loop-i-init c =
    let a = c.args in record {
      first_size = c.well_formed.1.1.0.1.0.1;
      second_size = c.well_formed.1.1.1.0.1.0.1;
      so_far = cross_all_none (dimensions_of a.dims) (settings_of a.p a.n) (settings_of a.q a.n) a.k a.rng.s a.p a.q;
    }

pub loop-i-preserved : goal.loop-i-preserved
loop-i-preserved c =
    let v = c.cross_one-v in
    let l = c.loop-i in
    let a = c.args in
    let t = c.loop-i-test.true in
    let room : l.i < length l.first = omega arith in
    let room2 : l.i < length l.second = omega arith in record {
      first_size = simp length-set l.invariant.first_size;
      second_size = simp length-set l.invariant.second_size;
      so_far = ap₂ (λ (x y : List ParamValue). drawn (children x y) v.result.rng.s)
          (settings-more l.first l.i v.result.first room) (settings-more l.second l.i v.result.second room2)
          ∙ cross_all-more _ l.i (settings_of a.p a.n) (settings_of a.q a.n) _ _ _ _ _ _ _ _ _ _ l.invariant.so_far (setting-at a.p a.n l.i t) (setting-at a.q a.n l.i t) v.ensures;
    }

pub returns : goal.returns
returns c =
    let l = c.loop-i in
    let a = c.args in
    let e : l.i ≡ a.n = omega arith in
    subst (λ (m : ℕ). drawn (children (settings_of l.first m) (settings_of l.second m)) l.rng.s ≡ cross_all (dimensions_of a.dims) m (settings_of a.p a.n) (settings_of a.q a.n) a.k a.rng.s)
    e l.invariant.so_far
