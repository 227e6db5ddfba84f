-- No square of a distance is below 0: it may be -0, where there are no terms, an infinity or a NaN.
use Prim.Native.Nat.{ℕ, zero, suc, ◌*◌}
use mathlib.Core.Path.{refl, sym, subst}
use mathlib.Core.Bool.{true, false, not}
use lib.Dec.{T}
use lib.Ieee.{Float, nan, inf, fin, binary64, up, down, lt, add, mul, is_nan, of_bits, fits}
use lib.Ieee.Fits.{mul-fits}
use Rattle.model.specs.Real.{◌⊕◌, ◌⊗◌, sum_to}
use Rattle.model.specs.Numbers.{square}
use Rattle.model.specs.Association.{dot, small_norm, squares_of}
use Rattle.list_laws.proofs.Bools.{by_bool}
use Rattle.float_laws.proofs.Order.{le→nlt, nlt→le}
use Rattle.float_laws.proofs.Rounding.{unsigned, round-unsigned}
use Rattle.float_laws.proofs.Constants.{nought, nought-not-nan, unsigned-from}
use Rattle.float_laws.proofs.Arithmetic.{add-from-zero}
use Rattle.float_laws.proofs.Sums.{sum_fits}
use Rattle.association_laws.specs.Search.{Square}
use Rattle.association_laws.proofs.Search.{squares_short, squares_long, squares_fit}

-- with the sign clear
clear_low : (x : Float) → T (unsigned x) → T (not (lt x nought))
clear_low x u = le→nlt nought x (unsigned-from x u)

square-low : (x : Float) → T (not (lt (square x) nought))
unfolding mul lt
square-low nan = tt
square-low (inf true) = tt
square-low (inf false) = tt
square-low (fin true m e) = clear_low (fin true m e ⊗ fin true m e) (round-unsigned binary64 (m * up e * (m * up e)) (down e * down e))
square-low (fin false m e) = clear_low (fin false m e ⊗ fin false m e) (round-unsigned binary64 (m * up e * (m * up e)) (down e * down e))

add_low : (x y : Float) → T (fits binary64 x) → T (fits binary64 y) → T (not (lt x nought)) → T (not (lt y nought)) → T (not (lt (x ⊕ y) nought))
unfolding add lt is_nan
add_low nan y X Y a b = tt
add_low (inf true) y X Y a b = absurd a
add_low (inf false) nan X Y a b = tt
add_low (inf false) (inf true) X Y a b = absurd b
add_low (inf false) (inf false) X Y a b = tt
add_low (inf false) (fin t n d) X Y a b = tt
add_low (fin s m e) nan X Y a b = tt
add_low (fin s m e) (inf true) X Y a b = absurd b
add_low (fin s m e) (inf false) X Y a b = tt
add_low (fin s m e) (fin t n d) X Y a b =
    let x = fin s m e in
    let y = fin t n d in
    le→nlt nought (x ⊕ y)
    (add-from-zero binary64 x y (record { held = X; finite = tt }) (record { held = Y; finite = tt }) (nlt→le x nought tt nought-not-nan a) (nlt→le y nought tt nought-not-nan b))

sum_squares-low : (f : ℕ → Float) (n : ℕ) → T (not (lt (sum_to (λ j. square (f j)) n) nought))
unfolding sum_to
sum_squares-low f zero = unfold lt of_bits in tt
sum_squares-low f (suc n) = add_low (sum_to (λ j. square (f j)) n) (square (f n)) (sum_fits _ n) (mul-fits binary64 (f n) (f n)) (sum_squares-low f n) (square-low (f n))

pub squares_square : (m : ℕ) (p r : ℕ → Float) → Square (squares_of m p r)
squares_square m p r = record { held = squares_fit m p r; low = low }
  where
    low : T (not (lt (squares_of m p r) nought))
    low = by_bool (lt (dot m r r) small_norm)
        (λ e. subst (λ x. T (not (lt x nought))) (sym (squares_short m p r (dot m r r) refl e)) (unfold lt in tt))
        (λ e. subst (λ x. T (not (lt x nought))) (sym (squares_long m p r (dot m r r) refl e)) (sum_squares-low _ m))
