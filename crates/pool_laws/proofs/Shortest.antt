-- THE SHORTEST FORMS. Every number below 2^64 is read back from the one form that is written for it, and nothing else is read.
use Prim.Native.Nat.{ℕ, zero, suc, ◌+◌, ◌*◌, ◌/◌, ◌%◌, ◌^◌, ◌≤◌, ◌<◌}
use mathlib.Core.Path.{◌≡◌, refl, ap, sym, ◌∙◌, subst}
use mathlib.Core.Bool.{true, ◌||◌}
use mathlib.Core.Logic.{◌⊎◌, inl, inr, ⊎_elim}
use mathlib.Core.List.{List, [], ◌∷◌, ◌++◌}
use Rattle.std.specs.Prelude.{Some}
use native.Mathlib.Nat.{add-mul, mul_assoc, mul_comm}
use native.Mathlib.Omega.{arith}
use borrow.Author.Tests.{lt-ltb, le-ltb, leb-true, ltb-true, eqb-true}
use lib.Dec.{eqb, leb, ltb}
use lib.Pow.{shr_lt, pow-add}
use lib.ListN.{length, get_or}
use Rattle.model.specs.PoolFile.{Parsed, pure, number_from, number, groups_of, written}
use Rattle.list_laws.proofs.Bools.{by_bool, and_left, and_right}
use Rattle.list_laws.proofs.Below.{by_lt}
use Rattle.pool_number.proofs.Groups.{good-last, from_last, from_more, number_by}

-- how many bits g + 1 groups hold
width : ℕ → ℕ
width zero = 7
width (suc g) = width g + 7

-- a number is its lowest group and the rest
shifted : (acc n k : ℕ) → acc + n % 128 * 2 ^ k + n / 128 * 2 ^ (k + 7) ≡ acc + n * 2 ^ k
shifted acc n k =
    let p : 2 ^ (k + 7) ≡ 128 * 2 ^ k = pow-add 2 k 7 ∙ mul_comm (2 ^ k) (2 ^ 7) in
    let q : n / 128 * 2 ^ (k + 7) ≡ n / 128 * 128 * 2 ^ k = ap (λ (x : ℕ). n / 128 * x) p ∙ sym (mul_assoc (n / 128) 128 (2 ^ k)) in
    let d : n % 128 + n / 128 * 128 ≡ n = omega arith in
    let a = add-mul (n % 128) (n / 128 * 128) (2 ^ k) in
    let e : (n % 128 + n / 128 * 128) * 2 ^ k ≡ n * 2 ^ k = ap (λ (x : ℕ). x * 2 ^ k) d in
    omega arith

-- ---- what is written is read

groups_one : (g n : ℕ) → n < 128 → groups_of (suc g) n ≡ n ∷ []
unfolding groups_of
groups_one g n h = rw (lt-ltb n 128 h)

groups_more : (g n : ℕ) → 128 ≤ n → groups_of (suc g) n ≡ (n % 128 + 128) ∷ groups_of g (n / 128)
unfolding groups_of
groups_more g n h = rw (le-ltb n 128 h)

-- one group, as many as there may be
back_one : (g k acc n : ℕ) (rest : List ℕ) → n < 128 → acc + n * 2 ^ k < 2 ^ 64 → (1 ≤ n) ⊎ (k ≡ 0)
    → number_from k acc (groups_of (suc g) n ++ rest) ≡ pure (acc + n * 2 ^ k) rest
back_one g k acc n rest l f s =
    let e : n % 128 ≡ n = omega arith in
    ap (λ (t : List ℕ). number_from k acc (t ++ rest)) (groups_one g n l) ∙ rw e at (from_last k acc n rest l (rw e f) s)

back : (g k acc n : ℕ) (rest : List ℕ) → n < 2 ^ width g → acc + n * 2 ^ k < 2 ^ 64 → (1 ≤ n) ⊎ (k ≡ 0)
    → number_from k acc (groups_of (suc g) n ++ rest) ≡ pure (acc + n * 2 ^ k) rest
unfolding width
back zero k acc n rest h f s = back_one 0 k acc n rest h f s
back (suc g) k acc n rest h f s = by_lt n 128
    (λ l. back_one (suc g) k acc n rest l f s)
    (λ l. let q : n / 128 < 2 ^ width g = shr_lt (width g) 7 h in
    let z = shifted acc n k in
    let m : (n % 128 + 128) % 128 ≡ n % 128 = omega arith in
    let o : 1 ≤ n / 128 = omega arith in
    ap (λ (t : List ℕ). number_from k acc (t ++ rest)) (groups_more (suc g) n l)
    ∙ from_more k acc (n % 128 + 128) (groups_of (suc g) (n / 128) ++ rest) (omega arith)
    ∙ ap (λ (x : ℕ). number_from (k + 7) (acc + x * 2 ^ k) (groups_of (suc g) (n / 128) ++ rest)) m
    ∙ back g (k + 7) (acc + n % 128 * 2 ^ k) (n / 128) rest q (omega arith) (inl o)
    ∙ ap (λ (x : ℕ). pure x rest) z)

pub read_back : (n : ℕ) (rest : List ℕ) → n < 2 ^ 64 → number (written n ++ rest) ≡ pure n rest
unfolding width
read_back n rest h =
    let e : 0 + n * 2 ^ 0 ≡ n = omega arith in
    back 9 0 0 n rest (omega arith) (omega arith) (inr refl) ∙ ap (λ (x : ℕ). pure x rest) e

-- ---- what is read is written so

-- bytes from which a number was read: what they add to the number, and their form
record Form (k acc : ℕ) (bytes : List ℕ) (p : Parsed ℕ) : Type 0 where
  pub part : ℕ
  pub word : p.value < 2 ^ 64
  pub adds : p.value ≡ acc + part * 2 ^ k
  pub some-part : (1 ≤ part) ⊎ (k ≡ 0)
  pub form : (g : ℕ) → part < 2 ^ width g → bytes ≡ groups_of (suc g) part ++ p.rest

-- every byte is one
abbrev pub Bytes : List ℕ → Type 0
Bytes bytes = (i : ℕ) → i < length bytes → get_or bytes i 0 < 256

-- the last byte of a number
last-form : (k acc b : ℕ) (rest : List ℕ) → b < 128 → good-last k acc b ≡ true → Form k acc (b ∷ rest) (record { value = acc + b % 128 * 2 ^ k; rest = rest })
last-form k acc b rest l t =
    let u : b % 128 ≡ b = omega arith in
    let c : (leb 1 b || eqb k 0) ≡ true = and_right (ltb (acc + b % 128 * 2 ^ k) (2 ^ 64)) _ t in
    record {
      part = b;
      word = ltb-true (acc + b % 128 * 2 ^ k) (2 ^ 64) (and_left _ (leb 1 b || eqb k 0) t);
      adds = ap (λ (x : ℕ). acc + x * 2 ^ k) u;
      some-part = by_bool (leb 1 b) (λ y. inl (leb-true 1 b y)) (λ y. inr (eqb-true k 0 (rw y at c)));
      form = λ g h. ap (λ (t : List ℕ). t ++ rest) (sym (groups_one g b l));
    }

-- a byte before others
more-form : (k acc b : ℕ) (rest : List ℕ) (p : Parsed ℕ) → 128 ≤ b → b < 256 → Form (k + 7) (acc + b % 128 * 2 ^ k) rest p → Form k acc (b ∷ rest) p
unfolding width
more-form k acc b rest p l h f =
    let n = b % 128 + f.part * 128 in
    let o : 1 ≤ f.part = ⊎_elim (λ y. y) (λ y. absurd (omega arith)) f.some-part in
    let d : n / 128 ≡ f.part = omega arith in
    let m : n % 128 ≡ b % 128 = omega arith in
    let z : acc + b % 128 * 2 ^ k + f.part * 2 ^ (k + 7) ≡ acc + n * 2 ^ k =
    ap (λ (x : ℕ). acc + x * 2 ^ k + f.part * 2 ^ (k + 7)) (sym m) ∙ ap (λ (x : ℕ). acc + n % 128 * 2 ^ k + x * 2 ^ (k + 7)) (sym d) ∙ shifted acc n k in
    let c : n % 128 + 128 ≡ b = omega arith in
    record {
      part = n;
      word = f.word;
      adds = f.adds ∙ z;
      some-part = inl (omega arith);
      form = λ g y. grown n d c (omega arith) g y;
    }
  where
    grown : (n : ℕ) → n / 128 ≡ f.part → n % 128 + 128 ≡ b → 128 ≤ n → (g : ℕ) → n < 2 ^ width g → b ∷ rest ≡ groups_of (suc g) n ++ p.rest
    grown n d c t zero y = absurd (omega arith)
    grown n d c t (suc g) y =
        let q : n / 128 < 2 ^ width g = shr_lt (width g) 7 y in
        ap (λ (x : ℕ). x ∷ rest) (sym c) ∙ ap (λ (r : List ℕ). (n % 128 + 128) ∷ r) (f.form g (subst (λ (x : ℕ). x < 2 ^ width g) d q))
        ∙ ap (λ (x : ℕ). (n % 128 + 128) ∷ (groups_of (suc g) x ++ p.rest)) (sym d)
        ∙ ap (λ (r : List ℕ). r ++ p.rest) (sym (groups_more (suc g) n t))

formed : (bytes : List ℕ) (k acc : ℕ) (p : Parsed ℕ) → number_from k acc bytes ≡ Some p → Bytes bytes → Form k acc bytes p
formed = number_by (λ k acc bytes p. Bytes bytes → Form k acc bytes p)
    (λ k acc b rest l w y. last-form k acc b rest l w)
    (λ k acc b rest p l f y. more-form k acc b rest p l (y 0 (omega arith)) (f (λ i h. y (suc i) (omega arith))))

pub record Written (bytes : List ℕ) (v : ℕ) (rest : List ℕ) : Type 0 where
  pub word : v < 2 ^ 64
  pub form : bytes ≡ written v ++ rest

pub read-written : (bytes : List ℕ) (v : ℕ) (rest : List ℕ) → Bytes bytes → number bytes ≡ pure v rest → Written bytes v rest
unfolding width
read-written bytes v rest y e =
    let p : Parsed ℕ = record { value = v; rest = rest } in
    let f = formed bytes 0 0 p e y in
    let w = f.word in
    let u : f.part ≡ v = omega (arith, f.adds) in
    record { word = w; form = f.form 9 (omega arith) ∙ ap (λ (x : ℕ). groups_of 10 x ++ rest) u }

-- so no two forms are one number's
pub one_form : (a b : List ℕ) (v : ℕ) (rest : List ℕ) → Bytes a → Bytes b → number a ≡ pure v rest → number b ≡ pure v rest → a ≡ b
one_form a b v rest x y e f = (read-written a v rest x e).form ∙ sym (read-written b v rest y f).form
