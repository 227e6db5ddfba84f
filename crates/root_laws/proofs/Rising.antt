-- R is the greatest of all doubles of 0..2^52, and rises with v.
use mathlib.Core.Path.{◌≡◌, sym, subst}
use mathlib.Core.Logic.{◌⊎◌, inl, inr}
use mathlib.Core.Bool.{true, false}
use Prim.Native.Nat.{ℕ, ◌≤◌}
use native.Mathlib.Omega.{arith}
use lib.Dec.{T}
use lib.Ieee.{Float, nan, inf, fin, le, lt, eq, neg, of_bits}
use Rattle.list_laws.proofs.Bools.{by_bool, true_T, or_split}
use Rattle.float_laws.proofs.Order.{le_trans, le_not_nan, lt→nle, lt_or_le, lt_le_trans}
use Rattle.float_laws.proofs.Rounding.{unsigned, minus_below}
use Rattle.float_laws.proofs.Constants.{nought, nought-not-nan}
use Rattle.model.specs.Real as model
use Rattle.model.specs.Real.{real}
use Rattle.model.specs.Numbers.{P, halvings, R}
use Rattle.real_laws.proofs.Halving.{gap, adjacent, root_by}
use Rattle.real_laws.proofs.Between.{not-zero, root_under, root_greatest, root_within}
use Rattle.real_laws.proofs.Parting.{real_mono, halvings-part, crossed}
use Rattle.root_laws.specs.InOrder.{largest, Greatest}

-- ---- the greatest

-- what is from 0 up has the sign clear, or is -0
pub signs : (y : Float) → T (le nought y) → T (unsigned y) ⊎ T (le y nought)
unfolding le neg
signs nan h = absurd h
signs (inf true) h = absurd h
signs (inf false) h = inl tt
signs (fin true m e) h = inr (minus_below (fin false m e) nought tt tt)
signs (fin false m e) h = inl tt

pub greatest : (v : Float) (k : ℕ) → T (lt model.nought v) → T (le v largest) → Greatest v k (R v k)
unfolding of_bits
greatest v k h t =
    let w = root_within v k in
    record {
      within = record { held = w.held; from = w.from; to = w.to };
      power = root_under v k h t;
      most = λ y Y p. elim (signs y Y.from) [
        | inl c ↦ root_greatest v k h t y Y.held c p
        | inr l ↦ le_trans y nought (R v k) l w.from
      ];
    }

-- ---- rising

above : (v : Float) → T (le nought v) → eq v nought ≡ false → T (lt nought v)
unfolding le
above v h e = elim (lt_or_le nought v nought-not-nan (le_not_nan nought v h).1) [
  | inl l ↦ l
  | inr g ↦ elim (or_split (lt v nought) (eq v nought) g) [
    | inl l ↦ absurd (lt→nle v nought l h)
    | inr q ↦ absurd (subst T e q)
  ]
]

-- where neither is 0: the lower end for v is one for w too, so it is below every upper end for w
module _ (v w : Float) (k : ℕ) (h : T (le v w)) where
  ends-rise : (halvings v k 63).lower ≤ (halvings w k 63).lower
  ends-rise =
      let l = (halvings v k 63).lower in
      let g = gap v k 63 in
      let o = g.order in
      let t = g.top in
      let g' = gap w k 63 in
      let o' = g'.order in
      let n = adjacent w k in
      let c = crossed w k l (halvings w k 63).upper (omega arith) (omega arith) (λ i. le_trans (P (real l) k) v w (true_T _ ((halvings-part v k 63).under i)) h) (halvings-part w k 63).over in
      omega arith

  lowers_rise : T (le (real (halvings v k 63).lower) (real (halvings w k 63).lower))
  lowers_rise = let g = gap w k 63 in let o = g.order in let t = g.top in real_mono _ _ ends-rise (omega arith)

pub rising : (v w : Float) (k : ℕ) → T (le model.nought v) → T (le v w) → T (le (R v k) (R w k))
unfolding of_bits
rising v w k a h = by_bool (eq v nought)
    (λ e. subst (λ (x : Float). T (le x (R w k))) (sym (root_by v k true e)) (root_within w k).from)
    (λ e. let f = not-zero w (lt_le_trans nought v w (above v a e) h) in
    subst (λ (x : Float). T (le x (R w k))) (sym (root_by v k false e))
    (subst (λ (x : Float). T (le (real (halvings v k 63).lower) x)) (sym (root_by w k false f)) (lowers_rise v w k h)))
