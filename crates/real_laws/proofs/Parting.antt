-- The root R by its neighbours, of every v: P rises with the pattern, so there is one l for which P(l) is at most v and P(l + 1) is not, and it is R's,
-- however it was found.
use mathlib.Core.Path.{◌≡◌, ap, ◌∙◌, sym, subst}
use mathlib.Core.Bool.{Bool, true, false}
use Prim.Native.Nat.{ℕ, zero, suc, ◌+◌, ◌-◌, ◌/◌, ◌≤◌, ◌<◌}
use native.Mathlib.Nat.{le_of_eq, le_trans as le-trans-ℕ}
use native.Mathlib.Omega.{arith}
use lib.Dec.{T}
use lib.Ieee.{Float, binary64, le, eq}
use lib.Ieee.Bits.{of_bits-fits}
use Rattle.list_laws.proofs.Bools.{true_T}
use Rattle.list_laws.proofs.Below.{by_lt}
use Rattle.float_laws.proofs.Order.{le_trans}
use Rattle.float_laws.proofs.Patterns.{bits→le}
use Rattle.model.specs.Real.{real, nought}
use Rattle.model.specs.Numbers.{P, Ends, ends, halved, halvings, R}
use Rattle.real_laws.specs.Parting.{Parted, Top}
use Rattle.real_laws.proofs.Powers.{power_mono}
use Rattle.real_laws.proofs.Halving.{by_halves, gap, adjacent, root_by}
use Rattle.real_laws.proofs.Between.{from_zero}

-- ---- doubles rise with the pattern, and P with them
pub real_mono : (a b : ℕ) → a ≤ b → b ≤ Top → T (le (real a) (real b))
real_mono a b h t =
    let A = from_zero a (omega arith) in
    let B = from_zero b t in
    let o = le-trans-ℕ (le_of_eq A.own) (le-trans-ℕ h (le_of_eq (sym B.own))) in
    bits→le binary64 (real a) (real b) (of_bits-fits binary64 a) (of_bits-fits binary64 b) A.clear B.clear o

pub pattern_mono : (k a b : ℕ) → a ≤ b → b ≤ Top → T (le (P (real a) k) (P (real b) k))
pattern_mono k a b h t =
    power_mono (real a) (real b) (of_bits-fits binary64 a) (of_bits-fits binary64 b) (from_zero a (omega arith)).from (real_mono a b h t) (k - 1)

module _ (v : Float) (k : ℕ) where
  -- ---- ends by the code's tests: p is P of y, the real of the pattern w
  pub test_of : (y p : Float) (w : ℕ) (b : Bool) → y ≡ real w → p ≡ P y k → le p v ≡ b → le (P (real w) k) v ≡ b
  test_of y p w b e f t = sym (ap (λ (x : Float). le x v) (f ∙ ap (λ (x : Float). P x k) e)) ∙ t

  pub first_ends : Parted v k 0 Top
  first_ends = record { under = λ h. absurd (omega arith); over = λ h. absurd (omega arith) }

  pub raised : (l u m : ℕ) → Parted v k l u → le (P (real m) k) v ≡ true → Parted v k m u
  raised l u m p t = record { under = λ h. t; over = p.over }

  pub lowered : (l u m : ℕ) → Parted v k l u → le (P (real m) k) v ≡ false → Parted v k l m
  lowered l u m p t = record { under = p.under; over = λ h. t }

  -- x and y are P of the neighbours l and u
  pub parted_by : (l u : ℕ) (x y : Float) → u ≡ l + 1 → x ≡ P (real l) k → y ≡ P (real u) k → le x v ≡ true → le y v ≡ false → Parted v k l (l + 1)
  parted_by l u x y n e f a b =
      record { under = λ h. sym (ap (λ (p : Float). le p v) e) ∙ a; over = λ h. sym (ap (λ (p : Float). le p v) (f ∙ ap (λ (i : ℕ). P (real i) k) n)) ∙ b }

  pub neighbours_part : (l u : ℕ) → l < u → u ≤ l + 1 → Parted v k l u → Parted v k l (l + 1)
  neighbours_part l u h n p = let e : u ≡ l + 1 = omega arith in subst (Parted v k l) e p

  -- ---- every halving keeps v parted
  abbrev Kept : Ends → Type 0
  Kept e = Parted v k e.lower e.upper

  step : (l u : ℕ) → Parted v k l u → Kept (halved v k (ends l u))
  step l u p = by_halves v k l u Kept (λ h. p) (λ h t. raised l u ((l + u) / 2) p t) (λ h t. lowered l u ((l + u) / 2) p t)

  pub halvings-part : (n : ℕ) → Kept (halvings v k n)
  unfolding halvings
  halvings-part zero = first_ends
  halvings-part (suc n) = let e = halvings v k n in step e.lower e.upper (halvings-part n)

  -- ---- a lower end is below every upper end
  pub crossed : (l u : ℕ) → l < Top → 0 < u → (0 < l → T (le (P (real l) k) v)) → (u < Top → le (P (real u) k) v ≡ false) → l < u
  crossed l u t z p q = by_lt l u (λ h. h)
      (λ h. absurd (subst T (q (omega arith)) (le_trans (P (real u) k) (P (real l) k) v (pattern_mono k u l h (omega arith)) (p (omega arith)))))

  -- ---- so neighbours that part v are those of R
  pub root_parted : (l : ℕ) → eq v nought ≡ false → l < Top → Parted v k l (l + 1) → real l ≡ R v k
  root_parted l z t p =
      let h = (halvings v k 63).lower in
      let u = (halvings v k 63).upper in
      let g = gap v k 63 in
      let o = g.order in
      let s = g.top in
      let n = adjacent v k in
      let q = halvings-part 63 in
      let a = crossed l u t (omega arith) (λ i. true_T _ (p.under i)) q.over in
      let b = crossed h (l + 1) (omega arith) (omega arith) (λ i. true_T _ (q.under i)) p.over in
      let e : l ≡ h = omega arith in
      ap real e ∙ sym (root_by v k false z)
