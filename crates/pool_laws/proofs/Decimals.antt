-- Laws of a number's digits, and of a line's number.
use Prim.Native.Nat.{ℕ, zero, suc, ◌+◌, ◌*◌, ◌-◌, ◌/◌, ◌%◌, ◌≤◌, ◌<◌}
use mathlib.Core.Path.{◌≡◌, refl, sym, subst}
use mathlib.Core.List.{List, [], ◌∷◌, ◌++◌}
use native.Mathlib.Omega.{arith}
use borrow.Author.Tests.{lt-ltb, le-ltb, ltb-true, ltb-false, eq-eqb, ne_eqb, eqb-true, eqb-false}
use lib.Dec.{eqb, ltb}
use lib.ListN.{length, length-append}
use Rattle.model.specs.Lists.{list_below}
use Rattle.model.specs.Kept.{without_line}
use Rattle.model.specs.PoolFile.{digits_of, ascii, decimal, line_text}
use Rattle.list_laws.proofs.Bools.{by_bool}

pub digits_none : (d n : ℕ) → d ≡ 0 → digits_of d n ≡ []
unfolding digits_of
digits_none d n e = rw e

pub digits_one : (d n : ℕ) → (d ≡ 0 → ⊥) → n < 10 → digits_of d n ≡ (48 + n) ∷ []
unfolding digits_of
digits_one zero n h l = absurd (h refl)
digits_one (suc d) n h l = rw (lt-ltb n 10 l)

pub digits_more : (d n : ℕ) → (d ≡ 0 → ⊥) → 10 ≤ n → digits_of d n ≡ digits_of (d - 1) (n / 10) ++ ((48 + n % 10) ∷ [])
unfolding digits_of
digits_more zero n h l = absurd (h refl)
digits_more (suc d) n h l = let e : suc d - 1 ≡ d = omega arith in rw (le-ltb n 10 l, e)

-- what holds of no digit and of one, and of digits with one more behind them, holds of all digits
pub digits_by : (Q : ℕ → ℕ → List ℕ → Type 0) → ((n : ℕ) → Q 0 n []) → ((d n : ℕ) → n < 10 → Q (suc d) n ((48 + n) ∷ []))
    → ((d n : ℕ) (l : List ℕ) → 10 ≤ n → Q d (n / 10) l → Q (suc d) n (l ++ ((48 + n % 10) ∷ []))) → (d n : ℕ) → Q d n (digits_of d n)
unfolding digits_of
digits_by Q none one more zero n = none n
digits_by Q none one more (suc d) n = by_bool (ltb n 10)
    (λ e. rw e (one d n (ltb-true n 10 e)))
    (λ e. rw e (more d n (digits_of d (n / 10)) (ltb-false n 10 e) (digits_by Q none one more d (n / 10))))

-- the numbers of so many digits
abbrev pub limit : ℕ → ℕ
limit zero = 1
limit (suc d) = limit d * 10

digits_few : (d n k : ℕ) → n < limit (suc k) → length (digits_of d n) ≤ suc k
digits_few d n = digits_by (λ d n l. (k : ℕ) → n < limit (suc k) → length l ≤ suc k) (λ n k h. omega arith) (λ d n u k h. omega arith) more d n
  where
    more : (d n : ℕ) (l : List ℕ) → 10 ≤ n → ((k : ℕ) → n / 10 < limit (suc k) → length l ≤ suc k)
        → (k : ℕ) → n < limit (suc k) → length (l ++ ((48 + n % 10) ∷ [])) ≤ suc k
    more d n l u f zero h = absurd (omega arith)
    more d n l u f (suc k) h = simp length-append (omega (arith, f k (omega arith)))

-- a number below 10,000 has at most 4 digits
pub decimal-four : (n : ℕ) → n < 10000 → length (decimal n) ≤ 4
decimal-four n h = digits_few 20 n 3 h

-- ---- a line's number, or the dash

pub dash : ascii "-" ≡ 45 ∷ []
unfolding ascii list_below
dash = refl

pub line_none : (l : ℕ) → l ≡ without_line → line_text l ≡ 45 ∷ []
unfolding line_text
line_none l e = rw (eq-eqb l without_line e) dash

pub line-some : (l : ℕ) → (l ≡ without_line → ⊥) → line_text l ≡ decimal l
unfolding line_text
line-some l e = rw (ne_eqb l without_line e)

pub line-by : (Q : List ℕ → Type 0) (l : ℕ) → Q (45 ∷ []) → ((l ≡ without_line → ⊥) → Q (decimal l)) → Q (line_text l)
line-by Q l a b = by_bool (eqb l without_line)
    (λ e. subst Q (sym (line_none l (eqb-true l without_line e))) a)
    (λ e. let z = eqb-false l without_line e in subst Q (sym (line-some l z)) (b z))
