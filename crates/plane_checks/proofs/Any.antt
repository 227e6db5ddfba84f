-- The test of a list's entries that a chain's `any` answers, as `any_below`: of the numbers below n, and of the first n entries of a list.
use Rattle.std.proofs.Common.{◌≡◌, ap, sym, ◌∙◌, ℕ, zero, suc, ◌<◌, ◌≤◌, Bool, ◌||◌, not, refl, List, length, get_or, take, add-one, arith}
use Rattle.std.specs.List.{list_any, range_with_len}
use Rattle.std.proofs.lemmas.List.Folds.{Any-from_list_any, list_any_at, list_any_more}
use Rattle.std.proofs.lemmas.List.FromFn.{length-range_with_len, get_or-range_with_len}
use lib.Ieee.{Float, nan, inf, fin}
use lib.Ieee.Scale.{finite}
use Rattle.std.specs.Float.{float_is_finite}
use Rattle.model.specs.Lists.{any_below}
use Rattle.list_laws.proofs.Bools.{both_ways}
use Rattle.list_laws.proofs.Tests.{any_below_none, any_below-at, any_below-some}

pub any-numbers : (f : ℕ → Bool) (n : ℕ) → list_any f (range_with_len 0 n) ≡ any_below f n
any-numbers f n = both_ways (list_any f (range_with_len 0 n)) (any_below f n)
    (λ e.
    let w = Any-from_list_any f (range_with_len 0 n) e in
    let h : w.0 < n = omega (arith, w.2, length-range_with_len 0 n) in
    let k : w.0 ≡ w.1 = omega (arith, w.3, get_or-range_with_len 0 n w.0 w.1 h) in
    any_below-at f n w.0 h (ap f k ∙ w.4))
    (λ e.
    let w = any_below-some f n e in
    let k : get_or (range_with_len 0 n) w.0 0 ≡ w.0 = omega (arith, get_or-range_with_len 0 n w.0 0 w.1) in
    list_any_at f (range_with_len 0 n) w.0 0 (omega (arith, w.1, length-range_with_len 0 n)) (ap f k ∙ w.2))

pub any-front : {A : Type 0} (f : A → Bool) (d : A) (xs : List A) (n : ℕ) → n ≤ length xs → list_any f (take n xs) ≡ any_below (λ k. f (get_or xs k d)) n
unfolding any_below
any-front f d xs zero h = sym (any_below_none (λ k. f (get_or xs k d)))
any-front f d xs (suc n) h =
    ap (λ k. list_any f (take k xs)) (sym (add-one n)) ∙ list_any_more f xs n d (omega arith)
    ∙ ap (λ b. b || f (get_or xs n d)) (any-front f d xs n (omega arith))

-- what `is_finite` answers
pub finite-is : (x : Float) → not (float_is_finite x) ≡ not (finite x)
unfolding float_is_finite
finite-is nan = refl
finite-is (inf s) = refl
finite-is (fin s m e) = refl
