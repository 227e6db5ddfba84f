-- LAW: of every line of the reference table, for 1 to 8 objectives and 1 to 199 divisions, each coordinate lies within 0..1, and one of them is 1/8 or more; so
-- r·r is at least 1/64, not below 1e-30.
use Prim.Native.Nat.{ℕ, suc, ◌-◌, ◌*◌, ◌/◌, ◌≤◌, ◌<◌}
use mathlib.Core.Path.{◌≡◌, refl, ap, sym, subst, ◌∙◌}
use mathlib.Core.Bool.{false}
use mathlib.Core.List.{List, [], ◌∷◌, map}
use native.Mathlib.Nat.{mul-le-mul_right, suc-mul, zero-mul}
use native.Mathlib.Omega.{arith}
use lib.Dec.{T, lit<}
use lib.IntN.{negsuc}
use lib.Ieee.{Float, nan, fin, binary64, round, mul, le, lt, of_bits, fits}
use lib.ListN.{length, get_or, get_or-map}
use Rattle.model.specs.Real.{◌⊗◌, sum_to}
use Rattle.model.specs.Numbers.{square}
use Rattle.model.specs.Reference.{ratio, lattice, das_dennis, point_count, line}
use Rattle.model.specs.Association.{dot, small_norm}
use Rattle.model.specs.Papers.DasDennis1998.{total, IsPoint}
use Rattle.list_laws.proofs.Bools.{T_false}
use Rattle.list_laws.proofs.Below.{by_lt}
use Rattle.list_laws.proofs.Built.{map_at}
use Rattle.list_laws.proofs.Members.{get_d_member}
use Rattle.reference_laws.proofs.Count.{lattice-count}
use Rattle.reference_laws.proofs.Table.{part-most, lattice-table}
use Rattle.reference_laws.proofs.Ratios.{ratio-rounded, ratio-unit}
use Rattle.float_laws.proofs.Units.{Number}
use Rattle.float_laws.proofs.Order as order
use Rattle.float_laws.proofs.Rounding.{rounded_mono}
use Rattle.float_laws.proofs.Constants.{nought, one, one_number}
use Rattle.float_laws.proofs.Arithmetic.{mul_mono}
use Rattle.float_laws.proofs.FromZero.{Upto, number, mul-upto, one_times_one}
use Rattle.float_laws.proofs.Sums.{term_below_sum}

-- ---- i / h

-- 1/8, and 1/64 by its bit pattern
abbrev eighth : Float
eighth = fin false 1 (negsuc 2)

abbrev pub sixty_fourth : Float
sixty_fourth = of_bits binary64 0x3f90_0000_0000_0000

ratio-large : (h i : ℕ) → 1 ≤ h → h ≤ 199 → i ≤ h → h ≤ 8 * i → T (le eighth (ratio h i))
unfolding round
ratio-large h i some few part l =
    rounded_mono binary64 eighth (ratio h i) 1 0 8 i 0 h (lit< tt) some (false, 1, refl, refl) (ratio-rounded h some few i part) (omega arith)

-- ---- the coordinates of a point

-- one is above q where the sum is above q for each
large : (t : List ℕ) (q : ℕ) → length t * q < total t → (i : ℕ) × (i < length t) × (q < get_or t i 0)
unfolding total
large [] q h = absurd (omega (arith, zero-mul q))
large (x ∷ t) q h = by_lt q x
    (λ e. (0, omega arith, e))
    (λ e. let w = large t q (omega (arith, suc-mul (length t) q)) in (suc w.0, omega (arith, w.1), w.2))

-- an eighth of it, where there are at most 8
large-part : (m h : ℕ) (t : List ℕ) → m ≤ 8 → 1 ≤ h → IsPoint m h t → (j : ℕ) × (j < m) × (h ≤ 8 * get_or t j 0)
large-part m h t narrow some p =
    let q = (h - 1) / 8 in
    let n = p.coordinates in
    let b : m * q < h = omega (arith, mul-le-mul_right q narrow) in
    let w = large t q (subst (λ s. length t * q < s) (sym p.on_simplex) (subst (λ s. s * q < h) (sym n) b)) in
    (w.0, omega (arith, w.1), omega (arith, w.2))

-- ---- a sum of squares of numbers within 0..1 is at least 1/64 where one of them is 1/8 or more

closed : T (fits binary64 eighth) × T (le nought eighth) × T (le sixty_fourth (eighth ⊗ eighth)) × T (lt small_norm sixty_fourth)
unfolding fits le lt mul of_bits
closed = (tt, tt, tt, tt)

square-least : (x : Float) → Upto one x → T (le eighth x) → T (le sixty_fourth (square x))
square-least x u l =
    let E : Number binary64 eighth = record { held = closed.0; finite = tt } in
    let X = number one x (one_number binary64) u in
    order.le_trans sixty_fourth (eighth ⊗ eighth) (square x) closed.2 (mul_mono binary64 eighth x eighth x E X E X closed.1 closed.1 l l)

squares_least : (f : ℕ → Float) (n : ℕ) → n ≤ 8 → ((t : ℕ) → t < n → Upto one (f t)) → (i : ℕ) → i < n → T (le eighth (f i)) → T (le sixty_fourth (sum_to (λ j. square (f j)) n))
squares_least f n h F i l big =
    let I = one_number binary64 in
    order.le_trans sixty_fourth (square (f i)) (sum_to (λ j. square (f j)) n) (square-least (f i) (F i l) big)
    (term_below_sum 0 (λ j. square (f j)) n (omega arith) (λ t k. mul-upto one one (f t) (f t) I I (F t k) (F t k) one one_times_one) i l)

-- ---- the lines

line_is : (m h l j : ℕ) → j < length (get_or (lattice m h) l []) → line m h l j ≡ ratio h (get_or (get_or (lattice m h) l []) j 0)
unfolding das_dennis
line_is m h l j g =
    ap (λ (r : List Float). get_or r j nan) (get_or-map (λ (t : List ℕ). map (ratio h) t) (lattice m h) l [])
    ∙ map_at (ratio h) (get_or (lattice m h) l []) j nan 0 g

pub record Usable (m h l : ℕ) : Type 0 where
  pub in_unit : (j : ℕ) → j < m → Upto one (line m h l j)
  pub norm : T (le sixty_fourth (dot m (line m h l) (line m h l)))
  pub not_small : lt (dot m (line m h l) (line m h l)) small_norm ≡ false

-- THE LAW
pub usable : (m h l : ℕ) → 1 ≤ m → m ≤ 8 → 1 ≤ h → h ≤ 199 → l < point_count m h → Usable m h l
usable m h l wide narrow some few inside =
    let t = get_or (lattice m h) l [] in
    let p = (lattice-table m h wide).nothing_else t (get_d_member [] (lattice m h) l (omega (arith, lattice-count m h wide))) in
    let is : (j : ℕ) → j < m → line m h l j ≡ ratio h (get_or t j 0) = λ j k. line_is m h l j (omega (arith, p.coordinates)) in
    let most : (j : ℕ) → get_or t j 0 ≤ h = λ j. omega (arith, part-most t j, p.on_simplex) in
    let each : (j : ℕ) → j < m → Upto one (line m h l j) = λ j k. subst (Upto one) (sym (is j k)) (ratio-unit h some few (get_or t j 0) (most j)) in
    let w = large-part m h t narrow some p in
    let big = subst (λ x. T (le eighth x)) (sym (is w.0 w.1)) (ratio-large h (get_or t w.0 0) some few (most w.0) w.2) in
    let least = squares_least (line m h l) m narrow each w.0 w.1 big in
    let norm = dot m (line m h l) (line m h l) in
    record {
      in_unit = each;
      norm = least;
      not_small = T_false (lt norm small_norm) (order.le→nlt small_norm norm (order.le_trans small_norm sixty_fourth norm (order.lt→le small_norm sixty_fourth closed.3) least));
    }
