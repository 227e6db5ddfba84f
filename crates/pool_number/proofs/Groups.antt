-- Laws of model's `number_from`, one for each way through a turn of the reader.
use Prim.Native.Nat.{ℕ, ◌+◌, ◌*◌, ◌%◌, ◌^◌, ◌<◌, ◌≤◌}
use mathlib.Core.Path.{◌≡◌, refl, sym, ap, ◌∙◌, subst}
use mathlib.Core.Bool.{Bool, true, false, cond, ◌&&◌, ◌||◌, and-false, or-true}
use mathlib.Core.Logic.{◌⊎◌, ⊎_elim}
use mathlib.Core.List.{List, [], ◌∷◌}
use Rattle.list_laws.proofs.Options.{none-ne-some, some-injective}
use Rattle.std.specs.Prelude.{None, Some}
use native.Mathlib.Nat.{lt_of_lt_of_le, add_comm, mul-le-mul_right}
use native.Mathlib.Omega.{arith}
use borrow.Author.Tests.{eq-eqb, ne_eqb, lt-ltb, le-ltb, le-leb, lt-leb, leb-true, leb-false}
use lib.Dec.{eqb, leb, ltb}
use lib.Arith.{digits_lt}
use lib.Pow.{shl_exact, pow_mono, pow-add}
use lib.ListN.{length, drop, get_or, length-drop, drop_of_length-le}
use Rattle.model.specs.PoolFile.{Parsed, pure, number_from}
use Rattle.list_laws.proofs.Bools.{by_bool}
use Rattle.list_laws.proofs.Built.{drop-next}
use Rattle.pool_number.specs.Reading.{as_read}

-- a last byte ends a number below 2^64 in its shortest form
abbrev pub good-last : ℕ → ℕ → ℕ → Bool
good-last k n b = ltb (n + b % 128 * 2 ^ k) (2 ^ 64) && (leb 1 b || eqb k 0)

-- ---- the byte that comes next, by what it is

module _ (k n b : ℕ) (rest : List ℕ) where
  pub from_more : 128 ≤ b → number_from k n (b ∷ rest) ≡ number_from (k + 7) (n + b % 128 * 2 ^ k) rest
  unfolding number_from
  from_more l = rw (le-leb 128 b l)

  -- the last
  from-ended : b < 128 → (t : Bool) → good-last k n b ≡ t → number_from k n (b ∷ rest) ≡ cond t (pure (n + b % 128 * 2 ^ k) rest) None
  unfolding number_from
  from-ended l t e = rw (lt-leb 128 b l, e)

  pub from_last : b < 128 → n + b % 128 * 2 ^ k < 2 ^ 64 → (1 ≤ b) ⊎ (k ≡ 0) → number_from k n (b ∷ rest) ≡ pure (n + b % 128 * 2 ^ k) rest
  from_last l f s =
      let t : (leb 1 b || eqb k 0) ≡ true = ⊎_elim (λ g. rw (le-leb 1 b g)) (λ z. rw (eq-eqb k 0 z, or-true)) s in
      from-ended l true (rw (lt-ltb (n + b % 128 * 2 ^ k) (2 ^ 64) f, t))

  -- a group of zeros after others
  pub from-padded : b ≡ 0 → 0 < k → number_from k n (b ∷ rest) ≡ None
  from-padded z l = from-ended (omega arith) false (rw (lt-leb 1 b (omega arith), ne_eqb k 0 (λ y. omega arith), and-false))

  -- one that makes the number too large
  from-large : b < 128 → 2 ^ 64 ≤ b * 2 ^ k → number_from k n (b ∷ rest) ≡ None
  from-large l h =
      let e : b % 128 ≡ b = omega arith in
      from-ended l false (rw (e, le-ltb (n + b * 2 ^ k) (2 ^ 64) (omega arith)))

-- past 64 bits model's definition reads on and refuses at the end
past : (bytes : List ℕ) (k n : ℕ) → 64 ≤ k → number_from k n bytes ≡ None
unfolding number_from
past [] k n h = refl
past (b ∷ bytes) k n h = by_bool (leb 128 b)
    (λ e. from_more k n b bytes (leb-true 128 b e) ∙ past bytes (k + 7) (n + b % 128 * 2 ^ k) (omega arith))
    (λ e. let m : b < 128 = leb-false 128 b e in
    by_bool (leb 1 b)
    (λ v. let p : 2 ^ 64 ≤ 2 ^ k = pow_mono h in
    let q : 1 * 2 ^ k ≤ b * 2 ^ k = mul-le-mul_right (2 ^ k) (leb-true 1 b v) in
    from-large k n b bytes m (omega arith))
    (λ v. let l : b < 1 = leb-false 1 b v in from-padded k n b bytes (omega arith) (omega arith)))

-- the tenth group has one bit
pub from-over : (k n b : ℕ) (rest : List ℕ) → k ≡ 63 → 1 < b → number_from k n (b ∷ rest) ≡ None
from-over k n b rest z l = by_bool (leb 128 b)
    (λ v. from_more k n b rest (leb-true 128 b v) ∙ past rest (k + 7) (n + b % 128 * 2 ^ k) (omega arith))
    (λ v. from-large k n b rest (leb-false 128 b v) (rw z (omega arith)))

pub from_end : (s : List ℕ) (k n p : ℕ) → length s ≤ p → number_from k n (drop p s) ≡ None
unfolding number_from
from_end s k n p h = rw (drop_of_length-le s h)

-- the bytes from a place on, the first before the others
pub opened : (s : List ℕ) (p b : ℕ) → b ≡ get_or s p 0 → p < length s → drop p s ≡ b ∷ drop (p + 1) s
opened s p b e h = rw e (drop-next 0 s p h)

-- ---- all bytes of a number

-- what holds of a last byte that is good, and of a byte before bytes of which it holds, holds of all bytes that a number is read from
pub number_by : (P : ℕ → ℕ → List ℕ → Parsed ℕ → Type 0)
    → ((k n b : ℕ) (rest : List ℕ) → b < 128 → good-last k n b ≡ true → P k n (b ∷ rest) (record { value = n + b % 128 * 2 ^ k; rest = rest }))
    → ((k n b : ℕ) (rest : List ℕ) (p : Parsed ℕ) → 128 ≤ b → P (k + 7) (n + b % 128 * 2 ^ k) rest p → P k n (b ∷ rest) p)
    → (bytes : List ℕ) (k n : ℕ) (p : Parsed ℕ) → number_from k n bytes ≡ Some p → P k n bytes p
unfolding number_from
number_by P last more [] k n p e = absurd (none-ne-some _ e)
number_by P last more (b ∷ bytes) k n p e = by_bool (leb 128 b)
    (λ v. more k n b bytes p (leb-true 128 b v) (number_by P last more bytes (k + 7) (n + b % 128 * 2 ^ k) p (rw v at e)))
    (λ v. by_bool (good-last k n b)
    (λ w. subst (λ (q : Parsed ℕ). P k n (b ∷ bytes) q) (some-injective _ _ (rw (v, w) at e)) (last k n b bytes (leb-false 128 b v) w))
    (λ w. absurd (none-ne-some _ (rw (v, w) at e))))

-- ---- one more group

-- it has 7 bits more
pub wider : (n k b : ℕ) → n < 2 ^ k → n + b % 128 * 2 ^ k < 2 ^ (k + 7)
wider n k b h = rw (add_comm n, add_comm k, pow-add 2 7 k) (digits_lt {q = b % 128} {m = 128} (omega arith) h)

-- what holds of a group that is taken: the shift loses nothing, and the number fits
pub record Taken (n k b : ℕ) : Type 0 where
  pub exact : (b % 128 * 2 ^ k) % 2 ^ 64 ≡ b % 128 * 2 ^ k
  pub fits : n + b % 128 * 2 ^ k < 2 ^ 64

at63 : (n b : ℕ) → n < 2 ^ 63 → b ≤ 1 → Taken n 63 b
at63 n b h l = record { exact = omega arith; fits = omega arith }

below63 : (n k b : ℕ) → n < 2 ^ k → k ≤ 56 → Taken n k b
below63 n k b h l = record {
  exact = shl_exact {a = b % 128} 7 k 64 (omega arith) (omega arith);
  fits = lt_of_lt_of_le (wider n k b h) (pow_mono {i = k + 7} {j = 64} (omega arith));
}

pub taken : (n k b : ℕ) → n < 2 ^ k → k ≤ 63 → k % 7 ≡ 0 → ((k ≡ 63) × (b ≤ 1)) ⊎ ((k ≡ 63) → ⊥) → Taken n k b
taken n k b h l d w = ⊎_elim
    (λ p. subst (λ (j : ℕ). n < 2 ^ j → Taken n j b) (sym p.0) (λ g. at63 n b g p.1) h)
    (λ f. below63 n k b h (omega arith))
    w

-- ---- the answer as the code's

pub as_number : (s : List ℕ) (v q : ℕ) → q ≤ length s → Some (record { number = v; next = q }) ≡ as_read (length s) (pure v (drop q s))
as_number s v q h = ap (λ (t : ℕ). Some (record { number = v; next = t })) (omega (arith, length-drop q s))
