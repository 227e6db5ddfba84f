-- Powers of a double from zero up, by repeated rounded products: they are from zero up, and grow with the double, also where they overflow.
--
use mathlib.Core.Path.{◌≡◌, refl, ap, ◌∙◌, subst}
use mathlib.Core.Logic.{inl, inr}
use mathlib.Core.Bool.{Bool, true, false, cond}
use Prim.Native.Nat.{ℕ, zero, suc, ◌+◌, ◌-◌, ◌*◌, ◌^◌, ◌≤◌, ◌<◌, zero-le}
use native.Mathlib.Nat.{le_antisymm, zero-mul}
use native.Mathlib.Omega.{arith}
use borrow.Author.Tests.{ne_eqb}
use lib.Dec.{T, lit<}
use lib.IntN.{ℤ}
use lib.Ieee.{Float, nan, inf, fin, binary64, up, down, le, lt, mul, fits}
use lib.Ieee.Fits.{mul-fits}
use lib.Ieee.Scale.{finite}
use Rattle.float_laws.proofs.Units.{Counts, counts→le, le→count, →slt}
use Rattle.float_laws.proofs.Order.{le_trans, le_not_nan, lt→le, lt_or_le}
use Rattle.float_laws.proofs.Rounding.{between_finite, rounded_exact}
use Rattle.float_laws.proofs.Constants.{nought, nought-counts, nought-fits, nought-not-nan, one, one_number}
use Rattle.float_laws.proofs.Arithmetic.{count, mul_mono, mul-from-zero, mul-rounded}
use Rattle.float_laws.proofs.FromZero.{Upto, mul-upto, one_times_one}
use Rattle.model.specs.Numbers.{power_up, P}
use Rattle.real_laws.proofs.Nan.{rise, below_inf}

-- ---- by a loop that counts the factors from 1 on: one factor more, and all of them
pub factor_more : (y p : Float) (j : ℕ) → 1 ≤ j → p ≡ P y j → mul binary64 p y ≡ P y (j + 1)
unfolding power_up
factor_more y p j h e =
    let n : suc (j - 1) ≡ j + 1 - 1 = omega arith in
    ap (λ (x : Float). mul binary64 x y) e ∙ ap (power_up y) n

pub factors_all : (y p : Float) (j k : ℕ) → 1 ≤ j → j - 1 ≤ k - 1 → k ≤ j → p ≡ P y j → p ≡ P y k
factors_all y p j k a b c e =
    let n : j - 1 ≡ k - 1 = omega arith in
    e ∙ ap (power_up y) n

-- the infinity times what is above zero
inf_times : (z : Float) → T (lt nought z) → mul binary64 (inf false) z ≡ inf false
unfolding lt mul
inf_times nan h = absurd h
inf_times (inf true) h = absurd h
inf_times (inf false) h = refl
inf_times (fin true n d) h = absurd h
inf_times (fin false n d) h =
    ap (λ (b : Bool). cond b nan (inf false)) (ne_eqb n 0 (λ e. none n d e (→slt false (0 * 1 * down d) false (n * up d * 1) h)))
  where
    none : (n : ℕ) (d : ℤ) → n ≡ 0 → 0 * 1 * down d < n * up d * 1 → ⊥
    none n d e h = let z = zero-mul (up d) in let y = ap (λ (x : ℕ). x * up d) e in omega arith

pub inf_mul : (p z : Float) → p ≡ inf false → T (lt nought z) → mul binary64 p z ≡ inf false
inf_mul p z e h = ap (λ (x : Float). mul binary64 x z) e ∙ inf_times z h

pub fits-power : (y : Float) → T (fits binary64 y) → (j : ℕ) → T (fits binary64 (power_up y j))
unfolding power_up
fits-power y Y zero = Y
fits-power y Y (suc j) = mul-fits binary64 (power_up y j) y

-- ---- powers of what is above zero
module _ (z : Float) (Z : T (fits binary64 z)) (F : T (finite z)) (h : T (lt nought z)) where
  above_power : (j : ℕ) → T (le nought (power_up z j))
  unfolding power_up
  above_power zero = lt→le nought z h
  above_power (suc j) = elim (rise (power_up z j) (above_power j)) [
    | inl e ↦ below_inf nought (power_up z (suc j)) nought-not-nan (inf_mul (power_up z j) z e h)
    | inr G ↦ mul-from-zero binary64 (power_up z j) z (record { held = fits-power z Z j; finite = G }) (record { held = Z; finite = F }) (above_power j) (lt→le nought z h)
  ]

-- ---- powers of a zero
level : (y : Float) → T (fits binary64 y) → T (le nought y) → T (le y nought) → Counts binary64 y 0 0
level y Y h k =
    let c = count binary64 y (record { held = Y; finite = between_finite nought y nought tt tt h k }) h in
    subst (λ (g : ℕ). Counts binary64 y g 0) (le_antisymm (le→count binary64 y nought c.0 0 c.1 (nought-counts binary64) k) zero-le) c.1

zero-power : (y : Float) → Counts binary64 y 0 0 → (j : ℕ) → Counts binary64 (power_up y j) 0 0
unfolding power_up
zero-power y i zero = i
zero-power y i (suc j) =
    rounded_exact binary64 (mul binary64 (power_up y j) y) nought 0 0 (2 ^ 1074 * 2 ^ 1074) 0 0 (lit< tt) (mul-rounded binary64 (power_up y j) y 0 0 0 0 (zero-power y i j) i) (nought-fits binary64) (nought-counts binary64) refl

-- ---- powers of what is its own square, as the infinity is
pub same_power : (y : Float) → mul binary64 y y ≡ y → (j : ℕ) → power_up y j ≡ y
unfolding power_up
same_power y e zero = refl
same_power y e (suc j) = ap (λ (p : Float). mul binary64 p y) (same_power y e j) ∙ e

inf_power : (y : Float) → y ≡ inf false → (j : ℕ) → power_up y j ≡ inf false
unfolding mul
inf_power y e j = ap (λ (x : Float). power_up x j) e ∙ same_power (inf false) refl j

-- ---- a power of what is from zero up is from zero up
pub power-from : (y : Float) → T (fits binary64 y) → T (le nought y) → (j : ℕ) → T (le nought (power_up y j))
power-from y Y h j = elim (rise y h) [
  | inl e ↦ below_inf nought (power_up y j) nought-not-nan (inf_power y e j)
  | inr F ↦ elim (lt_or_le nought y nought-not-nan (le_not_nan nought y h).1) [
    | inl l ↦ above_power y Y F l j
    | inr k ↦ counts→le binary64 nought (power_up y j) 0 0 0 0 (nought-counts binary64) (zero-power y (level y Y h k) j) (omega arith)
  ]
]

-- ---- and grows with it
module _ (y z : Float) (Y : T (fits binary64 y)) (Z : T (fits binary64 z)) (h : T (le nought y)) (k : T (le y z)) where
  -- z is finite and above zero
  rises : T (finite z) → T (lt nought z) → (j : ℕ) → T (le (power_up y j) (power_up z j))
  unfolding power_up
  rises F l zero = k
  rises F l (suc j) = elim (rise (power_up z j) (above_power z Z F l j)) [
    | inl e ↦ below_inf (power_up y (suc j)) (power_up z (suc j)) (le_not_nan nought (power_up y (suc j)) (power-from y Y h (suc j))).1 (inf_mul (power_up z j) z e l)
    | inr G ↦
        let n = power-from y Y h j in
        let i = rises F l j in
        mul_mono binary64 (power_up y j) (power_up z j) y z (record { held = fits-power y Y j; finite = between_finite nought (power_up y j) (power_up z j) tt G n i }) (record { held = fits-power z Z j; finite = G })
        (record { held = Y; finite = between_finite nought y z tt F h k }) (record { held = Z; finite = F }) n h i k
  ]

  -- "P monotone in y"
  pub power_mono : (j : ℕ) → T (le (power_up y j) (power_up z j))
  power_mono j = elim (rise z (le_trans nought y z h k)) [
    | inl e ↦ below_inf (power_up y j) (power_up z j) (le_not_nan nought (power_up y j) (power-from y Y h j)).1 (inf_power z e j)
    | inr F ↦ elim (lt_or_le nought z nought-not-nan (le_not_nan y z k).1) [
      | inl l ↦ rises F l j
      | inr m ↦
          counts→le binary64 (power_up y j) (power_up z j) 0 0 0 0 (zero-power y (level y Y h (le_trans y z nought k m)) j) (zero-power z (level z Z (le_trans nought y z h k) m) j) (omega arith)
    ]
  ]

-- powers of a double within 0..1 lie within it
pub power-upto : (y : Float) → Upto one y → (j : ℕ) → Upto one (power_up y j)
unfolding power_up
power-upto y u zero = u
power-upto y u (suc j) = mul-upto one one (power_up y j) y (one_number binary64) (one_number binary64) (power-upto y u j) u one one_times_one
