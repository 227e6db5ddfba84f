-- Tests as values: cases on a test, its number, and the halves of a conjunction.
use Prim.Native.Nat.{◌≤◌}
use mathlib.Core.Path.{◌≡◌, refl, sym, ◌∙◌}
use mathlib.Core.Logic.{◌⊎◌, inl, inr}
use mathlib.Core.Bool.{Bool, true, false, cond, not, ◌&&◌, ◌||◌, false≢true, true≢false}
use Rattle.std.specs.Prelude.{Option, None, Some}
use native.Mathlib.Omega.{arith}
use borrow.Author.Tests.{not-true}
use lib.Dec.{T}
use Rattle.model.specs.Lists.{one}
-- of the toolchain: the facts that a test passes and that it does not, as equations; a conjunction of facts
pub use lib.Ieee.Bits.{is_true as T_true, is_false as T_false}
pub use lib.Ieee.Fits.{and_i}

-- what holds where a test passes and where it does not, holds
pub by_bool : {C : Type 0} (b : Bool) → (b ≡ true → C) → (b ≡ false → C) → C
by_bool true f g = f refl
by_bool false f g = g refl

-- the same of what there is or is not
pub by_option : {A C : Type 0} (o : Option A) → (o ≡ None → C) → ((a : A) → o ≡ Some a → C) → C
by_option None f g = f refl
by_option (Some a) f g = g a refl

-- what holds of each of two values where a test picks it, holds of the one that it picks
pub by_cond : {A : Type 0} (P : A → Type 0) (b : Bool) (x y : A) → (b ≡ true → P x) → (b ≡ false → P y) → P (cond b x y)
by_cond P true x y f g = f refl
by_cond P false x y f g = g refl

-- a test that passes, from the equation to the fact
pub true_T : (b : Bool) → b ≡ true → T b
true_T true e = tt
true_T false e = absurd (false≢true e)

-- one that does not
pub false_T : (b : Bool) → b ≡ false → T (not b)
false_T true e = absurd (true≢false e)
false_T false e = tt

-- one that cannot pass fails, and one that cannot fail passes
pub no_pass : (b : Bool) → (b ≡ true → ⊥) → b ≡ false
no_pass true h = absurd (h refl)
no_pass false h = refl

pub no_fail : (b : Bool) → (b ≡ false → ⊥) → b ≡ true
no_fail true h = refl
no_fail false h = absurd (h refl)

-- two tests of which each passes where the other does are one
pub both_ways : (a b : Bool) → (a ≡ true → b ≡ true) → (b ≡ true → a ≡ true) → a ≡ b
both_ways true b f g = sym (f refl)
both_ways false b f g = sym (no_pass b (λ e. false≢true (g e)))

pub one_le : (b : Bool) → one b ≤ 1
one_le true = omega arith
one_le false = omega arith

pub one_true : (b : Bool) → one b ≡ 1 → b ≡ true
one_true true e = refl
one_true false e = absurd (omega arith)

pub one_false : (b : Bool) → one b ≡ 0 → b ≡ false
one_false true e = absurd (omega arith)
one_false false e = refl

-- the two halves of a conjunction
pub and_left : (a c : Bool) → (a && c) ≡ true → a ≡ true
and_left true c e = refl
and_left false c e = absurd (false≢true e)

pub and_right : (a c : Bool) → (a && c) ≡ true → c ≡ true
and_right true c e = e
and_right false c e = absurd (false≢true e)

pub and_t : (a c : Bool) → (a && c) ≡ true → T a × T c
and_t a c e = (true_T a (and_left a c e), true_T c (and_right a c e))

-- and the first of one where it is negated
pub and_not_left : (a c : Bool) → (not a && c) ≡ true → a ≡ false
and_not_left a c e = not-true a (and_left (not a) c e)

-- a conjunction whose first half passes is its second; one whose halves pass passes; one that fails, and whose one half passes, fails in the other
pub past : {a b d : Bool} → a ≡ true → b ≡ d → (a && b) ≡ d
past e f = rw e f

pub and_both : (a c : Bool) → a ≡ true → c ≡ true → (a && c) ≡ true
and_both a c h k = past h k

pub and_fails : (a c : Bool) → (a && c) ≡ false → a ≡ true → c ≡ false
and_fails true c e h = e
and_fails false c e h = absurd (false≢true h)

pub and_fails_first : (a c : Bool) → (a && c) ≡ false → c ≡ true → a ≡ false
and_fails_first false c e h = refl
and_fails_first true c e h = absurd (true≢false (sym h ∙ e))

-- a conjunction whose first half fails, and one whose second does
pub and_not : (a c : Bool) → a ≡ false → (a && c) ≡ false
and_not true c e = absurd (true≢false e)
and_not false c e = refl

pub and_no : (a c : Bool) → c ≡ false → (a && c) ≡ false
and_no true c e = e
and_no false c e = refl

-- a disjunction whose halves fail fails, and neither half of one that fails passes
pub or_both : (a c : Bool) → a ≡ false → c ≡ false → (a || c) ≡ false
or_both true c h k = absurd (true≢false h)
or_both false c h k = k

pub or_left : (a c : Bool) → (a || c) ≡ false → a ≡ false
or_left true c e = e
or_left false c e = refl

pub or_right : (a c : Bool) → (a || c) ≡ false → c ≡ false
or_right true c e = absurd (true≢false e)
or_right false c e = e

-- the same as facts
pub or_l : (a c : Bool) → T a → T (a || c)
or_l true c t = tt
or_l false c t = absurd t

pub or_r : (a c : Bool) → T c → T (a || c)
or_r true c t = tt
or_r false c t = t

pub or_split : (a c : Bool) → T (a || c) → T a ⊎ T c
or_split true c t = inl tt
or_split false c t = inr t
