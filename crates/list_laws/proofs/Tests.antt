-- Laws of `any_below`, `all_below` and `all_in`: at n + 1, by what lies below n alone, and as facts of each number.
use Prim.Native.Nat.{ℕ, zero, suc, ◌+◌, ◌<◌}
use mathlib.Core.Path.{◌≡◌, refl, ap, ap₂, sym, ◌∙◌}
use mathlib.Core.Bool.{Bool, true, false, not, ◌&&◌, ◌||◌, or-true, or-false, false≢true, true≢false}
use mathlib.Core.List.{List, [], ◌∷◌}
use native.Mathlib.Nat.{not-suc-le-zero}
use native.Mathlib.Numerals.{add-one}
use native.Mathlib.Omega.{arith}
use lib.ListN.{length, get_or}
use Rattle.model.specs.Lists.{any_below, all_below, all_in, list_below}
use Rattle.list_laws.proofs.Bools.{by_bool, no_pass, no_fail, both_ways, and_left, and_right}
use Rattle.list_laws.proofs.Below.{same-below, last_or}
use Rattle.list_laws.proofs.Built.{list_below-length, list_below-at}

-- ---- any_below

pub any_below_none : (f : ℕ → Bool) → any_below f 0 ≡ false
unfolding any_below
any_below_none f = refl

pub any_below-more : (f : ℕ → Bool) (n : ℕ) → any_below f (n + 1) ≡ (any_below f n || f n)
unfolding any_below
any_below-more f n = ap (any_below f) (add-one n)

pub any_below_yes : (f : ℕ → Bool) (n : ℕ) → f n ≡ true → any_below f (n + 1) ≡ true
any_below_yes f n e = any_below-more f n ∙ ap (λ b. any_below f n || b) e ∙ or-true (any_below f n)

pub any_below_no : (f : ℕ → Bool) (n : ℕ) → any_below f n ≡ false → f n ≡ false → any_below f (n + 1) ≡ false
any_below_no f n h e = any_below-more f n ∙ ap₂ (λ a b. a || b) h e

-- one that does not pass changes nothing
pub any_below-skip : (f : ℕ → Bool) (n : ℕ) → f n ≡ false → any_below f (n + 1) ≡ any_below f n
any_below-skip f n e = any_below-more f n ∙ ap (λ b. any_below f n || b) e ∙ or-false (any_below f n)

-- one that passes settles it; and if some pass, there is one
pub any_below-at : (f : ℕ → Bool) (n k : ℕ) → k < n → f k ≡ true → any_below f n ≡ true
unfolding any_below
any_below-at f zero k h e = absurd (not-suc-le-zero h)
any_below-at f (suc n) k h e =
    last_or h (λ v. ap (λ b. any_below f n || b) (ap f (sym v) ∙ e) ∙ or-true (any_below f n)) (λ m. ap (λ b. b || f n) (any_below-at f n k m e))

pub any_below-some : (f : ℕ → Bool) (n : ℕ) → any_below f n ≡ true → (k : ℕ) × (k < n) × (f k ≡ true)
unfolding any_below
any_below-some f zero e = absurd (false≢true e)
any_below-some f (suc n) e = by_bool (any_below f n)
    (λ v. let r = any_below-some f n v in (r.0, omega (arith, r.1), r.2))
    (λ v. (n, omega arith, rw v at e))

-- if none passes, each one does not; and conversely
pub any_below-each : (f : ℕ → Bool) (n : ℕ) → any_below f n ≡ false → (k : ℕ) → k < n → f k ≡ false
any_below-each f n e k h = no_pass (f k) (λ v. true≢false (sym (any_below-at f n k h v) ∙ e))

pub any_below_nowhere : (f : ℕ → Bool) (n : ℕ) → ((k : ℕ) → k < n → f k ≡ false) → any_below f n ≡ false
any_below_nowhere f n h = no_pass (any_below f n) (λ v. let r = any_below-some f n v in true≢false (sym r.2 ∙ h r.0 r.1))

-- only what lies below n matters
pub any_below-same : (f g : ℕ → Bool) (n : ℕ) → ((t : ℕ) → t < n → f t ≡ g t) → any_below f n ≡ any_below g n
unfolding any_below
any_below-same = same-below any_below (λ f g. refl) (λ f g n e v. ap₂ (λ a b. a || b) e v)

-- ---- all_below

pub all_below_none : (f : ℕ → Bool) → all_below f 0 ≡ true
unfolding all_below
all_below_none f = refl

pub all_below-more : (f : ℕ → Bool) (n : ℕ) → all_below f (n + 1) ≡ (all_below f n && f n)
unfolding all_below
all_below-more f n = ap (all_below f) (add-one n)

pub all_below_yes : (f : ℕ → Bool) (n : ℕ) → all_below f n ≡ true → f n ≡ true → all_below f (n + 1) ≡ true
all_below_yes f n h e = all_below-more f n ∙ ap₂ (λ a b. a && b) h e

-- all pass just where none does not
pub all_below_any : (f : ℕ → Bool) (n : ℕ) → all_below f n ≡ not (any_below (λ t. not (f t)) n)
unfolding all_below any_below
all_below_any f zero = refl
all_below_any f (suc n) = ap (λ b. b && f n) (all_below_any f n) ∙ neither (any_below (λ t. not (f t)) n) (f n)
  where
    neither : (a b : Bool) → (not a && b) ≡ not (a || not b)
    neither true b = refl
    neither false true = refl
    neither false false = refl

-- one that does not pass settles it
pub all_below_no : (f : ℕ → Bool) (n k : ℕ) → k < n → f k ≡ false → all_below f n ≡ false
all_below_no f n k h e = all_below_any f n ∙ ap not (any_below-at (λ t. not (f t)) n k h (ap not e))

-- all pass just where each one does
pub all_below-each : (f : ℕ → Bool) (n : ℕ) → all_below f n ≡ true → (k : ℕ) → k < n → f k ≡ true
all_below-each f n e k h = no_fail (f k) (λ v. true≢false (sym e ∙ all_below_no f n k h v))

pub all_below-every : (f : ℕ → Bool) (n : ℕ) → ((k : ℕ) → k < n → f k ≡ true) → all_below f n ≡ true
all_below-every f n h = all_below_any f n ∙ ap not (any_below_nowhere (λ t. not (f t)) n (λ k l. ap not (h k l)))

pub all_below-same : (f g : ℕ → Bool) (n : ℕ) → ((t : ℕ) → t < n → f t ≡ g t) → all_below f n ≡ all_below g n
unfolding all_below
all_below-same = same-below all_below (λ f g. refl) (λ f g n e v. ap₂ (λ a b. a && b) e v)

-- ---- all_in

module _ {A : Type 0} where
  -- every entry passes just where the entry at each place does
  pub all_in-each : (f : A → Bool) (d : A) (l : List A) → all_in f l ≡ true → (k : ℕ) → k < length l → f (get_or l k d) ≡ true
  unfolding all_in
  all_in-each f d [] e k h = absurd (not-suc-le-zero h)
  all_in-each f d (a ∷ l) e zero h = and_left (f a) (all_in f l) e
  all_in-each f d (a ∷ l) e (suc k) h = all_in-each f d l (and_right (f a) (all_in f l) e) k (omega arith)

  pub all_in-every : (f : A → Bool) (d : A) (l : List A) → ((k : ℕ) → k < length l → f (get_or l k d) ≡ true) → all_in f l ≡ true
  unfolding all_in
  all_in-every f d [] h = refl
  all_in-every f d (a ∷ l) h = ap₂ (λ x y. x && y) (h 0 (omega arith)) (all_in-every f d l (λ k u. h (suc k) (omega arith)))

  -- the same test, place by place
  pub all_in-below : (f : A → Bool) (d : A) (l : List A) → all_in f l ≡ all_below (λ k. f (get_or l k d)) (length l)
  all_in-below f d l = both_ways (all_in f l) (all_below (λ k. f (get_or l k d)) (length l))
      (λ e. all_below-every _ (length l) (all_in-each f d l e))
      (λ e. all_in-every f d l (all_below-each _ (length l) e))

-- and of a list that is given place by place
pub all_in-list_below : {A : Type 0} (test : A → Bool) (f : ℕ → A) (n : ℕ) → all_in test (list_below f n) ≡ all_below (λ j. test (f j)) n
all_in-list_below test f n =
    all_in-below test (f 0) (list_below f n) ∙ ap (all_below _) (list_below-length f n)
    ∙ all_below-same _ _ n (λ j l. ap test (list_below-at f n (f 0) j l))
