use Rattle.std.proofs.Common.{◌≡◌, refl, ap, ap₂, sym, ◌∙◌, ℕ, Bool, arith}
use lib.Ieee.{Float, lt}
use Rattle.model.specs.Hyperplane.{asf, extreme}
use Rattle.list_laws.proofs.Best.{best_none}
use Rattle.hyperplane_laws.specs.Flat.{row_at, listed}
use Rattle.hyperplane_laws.proofs.Search.{best_taken, best_left}
use Rattle.extremes.proofs.extreme_of.Goals as goal
use Rattle.extremes.proofs.extreme_of.Goals.{then-a-least, else-a-least}

pub loop-p-init : goal.loop-p-init
loop-p-init c = record { best = sym (best_none _ _ _); least = c.achievement-least.ensures }

pub loop-p-preserved : goal.loop-p-preserved
loop-p-preserved c =
    let l = c.loop-p in
    let a = c.args in
    let g : ℕ → Float = λ p. asf a.m (row_at a.rows.now a.m p) (listed a.ideal.now) a.i in
    let better : ℕ → ℕ → Bool = λ p q. lt (g p) (g q) in
    let v = c.achievement-a.ensures in
    let e = ap₂ lt (sym v) (sym l.invariant.least) in
    elim c.if-a-least.branch [
      | then-a-least w ↦ record {
        best = best_taken better 0 (λ p. p) _ l.invariant.best refl (e ∙ w.if-a-least.true) w.best-is;
        least = w.least-is ∙ v ∙ ap g (sym w.best-is);
      }
      | else-a-least w ↦ record {
        best = best_left better 0 (λ p. p) _ l.invariant.best refl (e ∙ w.if-a-least.false) w.best-is;
        least = w.least-is ∙ l.invariant.least ∙ ap g (sym w.best-is);
      }
    ]

pub returns : goal.returns
unfolding extreme
returns c = let e : c.loop-p.p ≡ c.args.n = omega arith in rw e at c.loop-p.invariant.best
