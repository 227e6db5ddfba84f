-- Two of the tests say no more than those after them: a pivot of 0 leaves its unknown not finite, and an unknown that is not finite leaves an intercept that is not
-- finite or not above 1e-10.
use Prim.Native.Nat.{ℕ, zero, suc, ◌+◌, ◌-◌, ◌*◌, ◌≤◌, ◌<◌}
use mathlib.Core.Path.{◌≡◌, refl, ap, ◌∙◌}
use mathlib.Core.Bool.{Bool, true, false, cond, not, ◌||◌, false≢true}
use mathlib.Core.List.{List}
use native.Mathlib.Nat.{zero-mul, mul-pos}
use native.Mathlib.Omega.{arith}
use borrow.Author.Tests.{eqb-true}
use lib.Dec.{eqb, lit<}
use lib.IntN.{ℤ, pos, negsuc}
use lib.Pow.{pow_pos}
use lib.Ieee.{Float, nan, inf, fin, binary64, div, eq, lt, of_bits, unlike, up, down, round}
use lib.Ieee.Scale.{finite}
use lib.ListN.{length, get_or}
use Rattle.model.specs.Lists.{any_below, list_below}
use Rattle.model.specs.Real.{◌⊘◌, nought, unit}
use Rattle.model.specs.Real.{small_span}
use Rattle.list_laws.proofs.Bools.{and_left}
use Rattle.list_laws.proofs.Built.{list_below-at}
use Rattle.list_laws.proofs.Tests.{any_below-some, any_below-at}
use Rattle.model.specs.Hyperplane.{Matrix, entry, less_known, solved, intercept_in, zero_pivot, unbounded_in, low_intercept}
use Rattle.hyperplane_laws.proofs.Unknowns.{unknown-row}
use Rattle.hyperplane_laws.proofs.Agree.{or_yes}

-- ---- a quotient by 0

up_pos : (d : ℤ) → 0 < up d
up_pos (pos k) = pow_pos k
up_pos (negsuc k) = lit< tt

-- a significand whose number equals 0 is 0
significand : (n : ℕ) (d : ℤ) (z : ℕ) → z ≡ 0 → n * up d * 1 ≡ z → eqb n 0 ≡ true
significand zero d z h e = refl
significand (suc n) d z h e =
    let p : 0 < suc n * up d * 1 = mul-pos (mul-pos (omega arith) (up_pos d)) (lit< tt) in
    absurd (omega arith)

either : (c s : Bool) → finite (cond c nan (inf s)) ≡ false
either true s = refl
either false s = refl

picked : (c : Bool) (x y : Float) → c ≡ true → finite x ≡ false → finite (cond c x y) ≡ false
picked true x y e f = f
picked false x y e f = absurd (false≢true e)

pub by_zero : (x p : Float) → eq p nought ≡ true → finite (x ⊘ p) ≡ false
unfolding eq div of_bits
by_zero x nan e = absurd (false≢true e)
by_zero x (inf t) e = absurd (false≢true e)
by_zero nan (fin t n d) e = refl
by_zero (inf s) (fin t n d) e = refl
by_zero (fin s m c) (fin t n d) e =
    let z = significand n d (0 * 1 * down d) (zero-mul (down d)) (eqb-true _ _ (and_left _ _ e)) in
    picked (eqb n 0) (cond (eqb m 0) nan (inf (unlike s t))) (round binary64 (unlike s t) (m * up c * down d) (n * up d * down c)) z (either (eqb m 0) (unlike s t))

-- THEOREM
pub pivot-unknown : (m : ℕ) (a : Matrix) (x : List Float) → m ≤ length x → zero_pivot m a ≡ true → unbounded_in (solved m a x m) m ≡ true
unfolding zero_pivot unbounded_in
pivot-unknown m a x room e =
    let r = any_below-some (λ k. eq (entry a k k) nought) m e in
    let k = r.0 in
    any_below-at (λ j. not (finite (get_or (solved m a x m) j nan))) m k r.1
    (ap (λ v. not (finite v)) (unknown-row m a x room k r.1) ∙ ap not (by_zero (less_known m a (solved m a x m) k (m - (k + 1))) (entry a k k) r.2))

-- ---- 1 divided by what is not finite

inverse : (v : Float) → not (finite v) ≡ true → (not (finite (unit ⊘ v)) || not (lt small_span (unit ⊘ v))) ≡ true
unfolding div of_bits lt
inverse nan e = refl
inverse (inf true) e = refl
inverse (inf false) e = refl
inverse (fin s m c) e = absurd (false≢true e)

or-true : (a b c d : Bool) → (a || b) ≡ true → (a ≡ true → c ≡ true) → (b ≡ true → d ≡ true) → (c || d) ≡ true
or-true true b c d e f g = or_yes c d (f refl)
or-true false b true d e f g = refl
or-true false b false d e f g = g e

-- THEOREM
pub unknown-intercept : (x : List Float) (m : ℕ) → unbounded_in x m ≡ true
    → (unbounded_in (list_below (intercept_in x) m) m || low_intercept (list_below (intercept_in x) m) m) ≡ true
unfolding unbounded_in low_intercept
unknown-intercept x m e =
    let r = any_below-some (λ j. not (finite (get_or x j nan))) m e in
    let j = r.0 in
    let y = list_below (intercept_in x) m in
    let same = list_below-at (intercept_in x) m nan j r.1 in
    or-true (not (finite (unit ⊘ get_or x j nan))) (not (lt small_span (unit ⊘ get_or x j nan)))
    (any_below (λ j. not (finite (get_or y j nan))) m) (any_below (λ j. not (lt small_span (get_or y j nan))) m) (inverse (get_or x j nan) r.2)
    (λ u. any_below-at (λ j. not (finite (get_or y j nan))) m j r.1 (ap (λ v. not (finite v)) same ∙ u))
    (λ u. any_below-at (λ j. not (lt small_span (get_or y j nan))) m j r.1 (ap (λ v. not (lt small_span v)) same ∙ u))
