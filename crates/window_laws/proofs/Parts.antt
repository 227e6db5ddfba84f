-- The words of own parts one after the other: the last generations', and the least that they tell.
use Prim.Native.Nat.{ℕ, zero, suc, ◌+◌, ◌-◌, ◌*◌, ◌≤◌, ◌<◌}
use mathlib.Core.Path.{◌≡◌, refl, sym, ap, ap₂, ◌∙◌}
use mathlib.Core.List.{List, [], ◌∷◌, ◌++◌, append-nil, append_assoc}
use native.Mathlib.Nat.{zero-mul, suc-mul, add-mul, mul-le-mul_right, le_of_lt}
use native.Mathlib.Omega.{arith}
use lib.Ieee.{Float, lt}
use lib.ListN.{length, get_or, take, drop, length-append, length-drop, take-append-drop, get_or-append}
use lib.Seq.{drop-nil, drop-append-add, drop-append-le, get_or-append-add}
use Rattle.list_laws.proofs.Below.{by_lt}
use Rattle.list_laws.proofs.Best.{best_same}
use Rattle.list_laws.proofs.Built.{list_below-length, list_below-at}
use Rattle.model.specs.Lists.{best_from}
use Rattle.model.specs.Real.{real, bits}
use Rattle.model.specs.Association.{Request, objectives, value_of, shapers, least_from}
use Rattle.model.specs.Window.{own_part, own_words, last_of}
use Rattle.window_laws.specs.Run.{least_over}
use Rattle.window_laws.proofs.Least.{smaller, least-split, best_front}

-- ---- the last of a list

module _ {A : Type 0} where
  pub last-length : (k : ℕ) (l : List A) → length (last_of k l) ≡ length l - (length l - k)
  last-length k l = length-drop (length l - k) l

  -- a list that has no more is all of it
  pub last-all : (k : ℕ) (l : List A) → length l ≤ k → last_of k l ≡ l
  last-all k l h = let e : length l - k ≡ 0 = omega (arith, h) in ap (λ (i : ℕ). drop i l) e

  -- what stands further back does not matter
  last-back : (k : ℕ) (a c : List A) → k ≤ length c → last_of k (a ++ c) ≡ last_of k c
  last-back k a c h =
      let e : length (a ++ c) - k ≡ length a + (length c - k) = omega (arith, length-append a c, h) in
      ap (λ (i : ℕ). drop i (a ++ c)) e ∙ drop-append-add a c (length c - k)

  -- one entry more
  pub last_snoc : (k : ℕ) (l : List A) (x : A) → last_of (suc k) (l ++ (x ∷ [])) ≡ last_of k l ++ (x ∷ [])
  last_snoc k l x =
      let e : length (l ++ (x ∷ [])) - suc k ≡ length l - k = omega (arith, length-append l (x ∷ [])) in
      ap (λ (i : ℕ). drop i (l ++ (x ∷ []))) e ∙ drop-append-le (length l - k) l (x ∷ []) (omega arith)

  -- it is the last of the last
  pub last-last : (k : ℕ) (l : List A) (x : A) → last_of k (last_of k l ++ (x ∷ [])) ≡ last_of k (l ++ (x ∷ []))
  last-last k l x = by_lt k (length l)
      (λ h. let a = take (length l - k) l in
      let b = last_of k l in
      let n : k ≤ length (b ++ (x ∷ [])) = omega (arith, h, length-append b (x ∷ []), last-length k l) in
      sym (ap (λ (y : List A). last_of k (y ++ (x ∷ []))) (sym (take-append-drop (length l - k) l)) ∙ ap (last_of k) (append_assoc a b (x ∷ [])) ∙ last-back k a (b ++ (x ∷ [])) n))
      (λ h. ap (λ (y : List A). last_of k (y ++ (x ∷ []))) (last-all k l h))

  pub last-count : (k : ℕ) (l : List A) → k ≤ length l → length (last_of k l) ≡ k
  last-count k l h = last-length k l ∙ omega (arith, h)

-- ---- pools of m objectives whose own parts are doubles

pub record Fine (m : ℕ) (r : Request) : Type 0 where
  pub same : objectives r ≡ m
  pub back : (j : ℕ) → j < objectives r → real (bits (own_part r j)) ≡ own_part r j

abbrev pub AllFine : ℕ → List Request → Type 0
AllFine m [] = Unit
AllFine m (r ∷ rs) = Fine m r × AllFine m rs

pub fine_snoc : (m : ℕ) (rs : List Request) (r : Request) → AllFine m rs → Fine m r → AllFine m (rs ++ (r ∷ []))
fine_snoc m [] r h f = (f, tt)
fine_snoc m (q ∷ rs) r h f = (h.0, fine_snoc m rs r h.1 f)

pub fine_drop : (m k : ℕ) (rs : List Request) → AllFine m rs → AllFine m (drop k rs)
fine_drop m zero rs h = h
fine_drop m (suc k) [] h = tt
fine_drop m (suc k) (r ∷ rs) h = fine_drop m k rs h.1

-- ---- their words

abbrev pub parts_of : List Request → List ℕ
parts_of [] = []
parts_of (r ∷ rs) = own_words r ++ parts_of rs

own-length : (m : ℕ) (r : Request) → Fine m r → length (own_words r) ≡ m
unfolding own_words
own-length m r f = list_below-length (λ j. bits (own_part r j)) (objectives r) ∙ f.same

pub parts_snoc : (rs : List Request) (r : Request) → parts_of (rs ++ (r ∷ [])) ≡ parts_of rs ++ own_words r
parts_snoc [] r = append-nil (own_words r)
parts_snoc (q ∷ rs) r = ap (λ (l : List ℕ). own_words q ++ l) (parts_snoc rs r) ∙ sym (append_assoc (own_words q) (parts_of rs) (own_words r))

pub parts_length : (m : ℕ) (rs : List Request) → AllFine m rs → length (parts_of rs) ≡ length rs * m
parts_length m [] h = sym (zero-mul m)
parts_length m (r ∷ rs) h = omega (arith, length-append (own_words r) (parts_of rs), own-length m r h.0, parts_length m rs h.1, suc-mul (length rs) m)

parts_drop : (m k : ℕ) (rs : List Request) → AllFine m rs → parts_of (drop k rs) ≡ drop (k * m) (parts_of rs)
parts_drop m zero rs h = sym (ap (λ (i : ℕ). drop i (parts_of rs)) (zero-mul m))
parts_drop m (suc k) [] h = sym (drop-nil (suc k * m))
parts_drop m (suc k) (r ∷ rs) h =
    let e : suc k * m ≡ length (own_words r) + k * m = omega (arith, suc-mul k m, own-length m r h.0) in
    parts_drop m k rs h.1 ∙ sym (ap (λ (i : ℕ). drop i (own_words r ++ parts_of rs)) e ∙ drop-append-add (own_words r) (parts_of rs) (k * m))

less-mul : (a k m : ℕ) → (a - k) * m ≡ a * m - k * m
less-mul a k m = by_lt a k
    (λ h. let e : a - k ≡ 0 = omega (arith, h) in
    ap (λ (i : ℕ). i * m) e ∙ zero-mul m ∙ omega (arith, mul-le-mul_right m (le_of_lt h)))
    (λ h. let c = a - k in
    let e : a ≡ k + c = omega (arith, h) in
    let s : a * m ≡ k * m + c * m = ap (λ (i : ℕ). i * m) e ∙ add-mul k c m in
    omega (arith, s))

-- the words of the last k are the last k × m words
pub parts_last : (m k : ℕ) (rs : List Request) → AllFine m rs → parts_of (last_of k rs) ≡ last_of (k * m) (parts_of rs)
parts_last m k rs h =
    parts_drop m (length rs - k) rs h
    ∙ ap (λ (i : ℕ). drop i (parts_of rs)) (less-mul (length rs) k m ∙ ap (λ (i : ℕ). i - k * m) (sym (parts_length m rs h)))

-- ---- the least that they tell

word-front : (m : ℕ) (r : Request) (rest : List ℕ) (j : ℕ) → Fine m r → j < m → real (get_or (own_words r ++ rest) (0 * m + j) 0) ≡ own_part r j
unfolding own_words
word-front m r rest j f h =
    let i : 0 * m + j ≡ j = omega (arith, zero-mul m) in
    let k : j < objectives r = omega (arith, h, f.same) in
    ap (λ (n : ℕ). real (get_or (own_words r ++ rest) n 0)) i
    ∙ ap real (get_or-append (own_words r) rest 0 j (omega (arith, k, list_below-length (λ j. bits (own_part r j)) (objectives r))) ∙ list_below-at (λ j. bits (own_part r j)) (objectives r) 0 j k)
    ∙ f.back j k

word-behind : (m : ℕ) (r : Request) (rest : List ℕ) (g j : ℕ) → Fine m r → real (get_or (own_words r ++ rest) (suc g * m + j) 0) ≡ real (get_or rest (g * m + j) 0)
word-behind m r rest g j f =
    let e : suc g * m + j ≡ length (own_words r) + (g * m + j) = omega (arith, suc-mul g m, own-length m r f) in
    ap (λ (n : ℕ). real (get_or (own_words r ++ rest) n 0)) e ∙ ap real (get_or-append-add (own_words r) rest (g * m + j) 0)

-- THE LAW: the least of the own parts is that worked out from the pools themselves
pub parts_least : (m : ℕ) (b : Float) (rs : List Request) (j : ℕ) → AllFine m rs → j < m
    → best_from lt b (λ g. real (get_or (parts_of rs) (g * m + j) 0)) (length rs) ≡ least_over b rs j
unfolding least_over best_from
parts_least m b [] j h l = refl
parts_least m b (r ∷ rs) j h l =
    best_front b (λ g. real (get_or (parts_of (r ∷ rs)) (g * m + j) 0)) (length rs)
    ∙ ap₂ (λ (x : Float) (f : ℕ → Float). best_from lt x f (length rs)) (ap (smaller b) (word-front m r (parts_of rs) j h.0 l) ∙ sym (least-split b r j)) refl
    ∙ best_same lt _ _ (λ g. real (get_or (parts_of rs) (g * m + j) 0)) (length rs) (λ g u. word-behind m r (parts_of rs) g j h.0)
    ∙ parts_least m (least_from b (λ p. value_of r p j) (shapers r)) rs j h.1 l
