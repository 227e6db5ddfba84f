-- The root R by halving: how the ends go on, and that they become neighbours.
use mathlib.Core.Path.{◌≡◌, sym, ap, ◌∙◌, subst}
use mathlib.Core.Bool.{Bool, true, false, cond}
use Prim.Native.Nat.{ℕ, zero, suc, ◌+◌, ◌-◌, ◌*◌, ◌/◌, ◌^◌, ◌≤◌, ◌<◌}
use native.Mathlib.Nat.{pow-suc, mul_assoc, mul_comm, mul-le-mul_right}
use native.Mathlib.Omega.{arith}
use borrow.Author.Tests.{le-leb, lt-leb}
use lib.Ieee.{Float, le, eq}
use Rattle.list_laws.proofs.Bools.{by_bool}
use Rattle.list_laws.proofs.Below.{by_lt}
use Rattle.model.specs.Real.{real, nought}
use Rattle.model.specs.Numbers.{P, Ends, ends, half_by, halved, halvings, R}
use Rattle.real_laws.specs.Parting.{Top}

module _ (v : Float) (k : ℕ) where
  -- ---- one halving
  neighbours : (l u : ℕ) → u ≤ suc l → halved v k (ends l u) ≡ ends l u
  unfolding halved
  neighbours l u h = ap (λ (b : Bool). cond b (ends l u) (half_by v k (ends l u) ((l + u) / 2))) (le-leb u (suc l) h)

  -- others are parted by the test of their middle
  half_is : (l u : ℕ) (b : Bool) → suc l < u → le (P (real ((l + u) / 2)) k) v ≡ b → halved v k (ends l u) ≡ cond b (ends ((l + u) / 2) u) (ends l ((l + u) / 2))
  unfolding halved half_by
  half_is l u b h t = rw (lt-leb u (suc l) h, t)

  -- what holds of neighbours, and of either half of others, holds after a halving
  pub by_halves : (l u : ℕ) (C : Ends → Type 0) → (u ≤ suc l → C (ends l u)) → (suc l < u → le (P (real ((l + u) / 2)) k) v ≡ true → C (ends ((l + u) / 2) u))
      → (suc l < u → le (P (real ((l + u) / 2)) k) v ≡ false → C (ends l ((l + u) / 2))) → C (halved v k (ends l u))
  by_halves l u C a b c = by_lt (suc l) u
      (λ h. by_bool (le (P (real ((l + u) / 2)) k) v)
      (λ t. subst C (sym (half_is l u true h t)) (b h t))
      (λ t. subst C (sym (half_is l u false h t)) (c h t)))
      (λ h. subst C (sym (neighbours l u h)) (a h))

  -- ---- the numbers between the ends become half as many with each halving
  pub record Gap (n : ℕ) (e : Ends) : Type 0 where
    pub order : e.lower < e.upper
    pub top : e.upper ≤ Top
    pub left : (e.upper - e.lower - 1) * 2 ^ n < 2 ^ 63

  less : (g g' p q : ℕ) → g' * 2 ≤ g → q ≡ p * 2 → g * p < 2 ^ 63 → g' * q < 2 ^ 63
  less g g' p q h e l =
      let a : g' * q ≡ g' * 2 * p = ap (λ (x : ℕ). g' * x) (e ∙ mul_comm p 2) ∙ sym (mul_assoc g' 2 p) in
      let b : g' * 2 * p ≤ g * p = mul-le-mul_right p h in
      omega arith

  -- from l, u to l', u'
  narrower : (n l u l' u' : ℕ) → Gap n (ends l u) → l' < u' → u' ≤ u → (u' - l' - 1) * 2 ≤ u - l - 1 → Gap (suc n) (ends l' u')
  narrower n l u l' u' g o t h =
      record { order = o; top = let s = g.top in omega arith; left = less (u - l - 1) (u' - l' - 1) (2 ^ n) (2 ^ suc n) h (pow-suc 2 n) g.left }

  gap_step : (n l u : ℕ) → Gap n (ends l u) → Gap (suc n) (halved v k (ends l u))
  gap_step n l u g = by_halves l u (Gap (suc n))
      (λ h. let o = g.order in narrower n l u l u g o (omega arith) (omega arith))
      (λ h t. narrower n l u ((l + u) / 2) u g (omega arith) (omega arith) (omega arith))
      (λ h t. narrower n l u l ((l + u) / 2) g (omega arith) (omega arith) (omega arith))

  pub gap : (n : ℕ) → Gap n (halvings v k n)
  unfolding halvings
  gap zero = record { order = omega arith; top = omega arith; left = omega arith }
  gap (suc n) = let e = halvings v k n in gap_step n e.lower e.upper (gap n)

  -- "until the ends are neighbours"
  pub adjacent : (halvings v k 63).upper ≡ suc (halvings v k 63).lower
  adjacent = let g = gap 63 in let o = g.order in let l = g.left in omega arith

  -- ---- R
  pub root_by : (b : Bool) → eq v nought ≡ b → R v k ≡ cond b nought (real (halvings v k 63).lower)
  unfolding R
  root_by b e = ap (λ (c : Bool). cond c nought (real (halvings v k 63).lower)) e
