-- Lists by places: what a list keeps is what stands at the places that pass, and the k-th place that passes is the k-th of those.
use Prim.Native.Nat.{ℕ, zero, suc, ◌+◌, ◌-◌, ◌≤◌, ◌<◌}
use mathlib.Core.Path.{◌≡◌, refl, ap, sym, ◌∙◌}
use mathlib.Core.Bool.{Bool, true, false, cond}
use mathlib.Core.List.{List, [], ◌∷◌, ◌++◌, map}
use native.Mathlib.Nat.{not-suc-le-zero}
use native.Mathlib.Omega.{arith}
use lib.Ieee.{Float, lt}
use lib.ListN.{length, get_or, replicate, length-replicate, get_or-replicate, get_or-append, get_or-eq_default, length-append, length-map}
use lib.Seq.{get_or_at}
use Rattle.model.specs.Lists.{count_below, keep_below, keep, best_from, list_below}
use Rattle.model.specs.Kept.{nearest, nearer_plan}
use Rattle.list_laws.proofs.Built.{map_at, list_below-places, map_below}
use Rattle.list_laws.proofs.Best.{best_more, best_same, best_all, best_map}
use Rattle.list_laws.proofs.Below.{last_or, by_lt}
use Rattle.list_laws.proofs.Counts.{count_below_none, count_below_yes, count_below_no, count_below-up}
use Rattle.list_laws.proofs.Members.{empty_of, keep-map}
use Rattle.list_laws.proofs.Kept.{keep_below-more, keep_below-length, keep_below-room, keep_below-keep}
use Rattle.niching_array_laws.specs.Niche.{Kth}

-- ---- one value again and again

-- every entry is that value, and so is what a place past the end reads as
pub replicate-at : {A : Type 0} (x : A) (n i : ℕ) → get_or (replicate n x) i x ≡ x
replicate-at x n i = by_lt i n (λ u. get_or-replicate n i x x u) (λ u. get_or-eq_default (replicate n x) x (omega (arith, length-replicate n x)))

-- ---- what is kept

-- those of a list that pass stand at the places whose entry passes
pub keep-places : (f : ℕ → Bool) (l : List ℕ) → keep f l ≡ map (λ i. get_or l i 0) (keep_below (λ i. f (get_or l i 0)) (length l))
keep-places f l =
    ap (keep f) (sym (list_below-places 0 l) ∙ sym (map_below (λ i. get_or l i 0) (λ i. i) (length l))) ∙ keep-map f (λ i. get_or l i 0) (list_below (λ i. i) (length l))
    ∙ ap (map (λ i. get_or l i 0)) (sym (keep_below-keep (λ i. f (get_or l i 0)) (length l)))

-- ---- the k-th

kth_at : (f : ℕ → Bool) (n r : ℕ) → r < n → f r ≡ true → get_or (keep_below f n) (count_below f r) 0 ≡ r
unfolding keep_below
kth_at f zero r h e = absurd (not-suc-le-zero h)
kth_at f (suc n) r h e =
    last_or h
    (λ v. let p : f n ≡ true = ap f (sym v) ∙ e in
    rw p (get_or_at (keep_below f n) n [] 0 (count_below f r) (keep_below-length f n ∙ ap (count_below f) (sym v)) ∙ sym v))
    (λ m. get_or-append (keep_below f n) (cond (f n) (n ∷ []) []) 0 (count_below f r)
    (omega (arith, keep_below-length f r, keep_below-room f n r m e)) ∙ kth_at f n r m e)

pub kth_is : (f : ℕ → Bool) (n k r : ℕ) → Kth f n k r → get_or (keep_below f n) k 0 ≡ r
kth_is f n k r h = ap (λ t. get_or (keep_below f n) t 0) (sym h.rank) ∙ kth_at f n r h.one.below h.one.passes

-- ---- the search for it, place by place: `left` more that pass are to be passed over before place i

pub record Seeks (f : ℕ → Bool) (k left i : ℕ) : Type 0 where
  pub passed : left + count_below f i ≡ k

pub seeks_first : (f : ℕ → Bool) (k : ℕ) → Seeks f k k 0
seeks_first f k = record { passed = omega (arith, count_below_none f) }

-- where b is the answer of the test at i
module _ {f : ℕ → Bool} {k left i : ℕ} (h : Seeks f k left i) where
  pub seeks_found : {b : Bool} (n : ℕ) → i < n → b ≡ f i → b ≡ true → left ≡ 0 → Kth f n k i
  seeks_found n u e v z = record { one = record { below = u; passes = sym e ∙ v }; rank = omega (arith, h.passed) }

  pub seeks_yes : {b : Bool} → b ≡ f i → b ≡ true → (left ≡ 0 → ⊥) → Seeks f k (left - 1) (i + 1)
  seeks_yes e v z = record { passed = omega (arith, h.passed, z, count_below_yes f i (sym e ∙ v)) }

  pub seeks_no : {b : Bool} → b ≡ f i → b ≡ false → Seeks f k left (i + 1)
  seeks_no e v = record { passed = omega (arith, h.passed, count_below_no f i (sym e ∙ v)) }

  -- it ends before place n
  pub seeks_ends : (n : ℕ) → k < count_below f n → n ≤ i → ⊥
  seeks_ends n u v = omega (arith, h.passed, count_below-up f n i v)

-- the first that passes is the only one up to it
pub first_only : (f : ℕ → Bool) (n r : ℕ) → Kth f n 0 r → keep_below f (r + 1) ≡ r ∷ []
first_only f n r h = keep_below-more f r h.one.passes ∙ ap (λ t. t ++ (r ∷ [])) (empty_of (keep_below f r) (keep_below-length f r ∙ h.rank))

-- ---- the nearest

module _ (d : ℕ → Float) where
  -- one more at the end
  pub nearest_snoc : (l : List ℕ) (p : ℕ) → 0 < length l → nearest d (l ++ (p ∷ [])) ≡ cond (lt (d p) (d (nearest d l))) p (nearest d l)
  unfolding nearest
  nearest_snoc l p h =
      let more = l ++ (p ∷ []) in
      let at : (i : ℕ) → i < length l → get_or l i 0 ≡ get_or more i 0 = λ i u. sym (get_or-append l (p ∷ []) 0 i u) in
      let last : get_or more (length l) 0 ≡ p = get_or_at l p [] 0 (length l) refl in
      sym (ap (λ t. cond (lt (d t) (d (nearest d l))) t (nearest d l)) (sym last)
      ∙ best_more (nearer_plan d) (get_or more 0 0) (λ i. get_or more i 0) (length l)
      (ap (λ b. best_from (nearer_plan d) b (λ i. get_or l i 0) (length l)) (at 0 h) ∙ best_same (nearer_plan d) (get_or more 0 0) _ _ (length l) at) refl
      ∙ ap (best_from (nearer_plan d) (get_or more 0 0) (λ i. get_or more i 0)) (sym (length-append l (p ∷ []))))

  pub nearest-one : (p : ℕ) → nearest d (p ∷ []) ≡ p
  unfolding nearest
  nearest-one p = best_all (nearer_plan d) (λ q. q ≡ p) p (λ i. get_or (p ∷ []) i 0) 1 refl (λ t u. let e : t ≡ 0 = omega arith in ap (λ i. get_or (p ∷ []) i 0) e)

-- the nearest plan stands at the nearest place
pub nearest-map : (d : ℕ → Float) (h : ℕ → ℕ) (l : List ℕ) → 0 < length l → nearest d (map h l) ≡ h (nearest (λ i. d (h i)) l)
unfolding nearest
nearest-map d h l u =
    let at : (i : ℕ) → i < length l → get_or (map h l) i 0 ≡ h (get_or l i 0) = λ i v. map_at h l i 0 0 v in
    ap (best_from (nearer_plan d) (get_or (map h l) 0 0) (λ i. get_or (map h l) i 0)) (length-map l h)
    ∙ ap (λ b. best_from (nearer_plan d) b (λ i. get_or (map h l) i 0) (length l)) (at 0 u)
    ∙ best_same (nearer_plan d) (h (get_or l 0 0)) _ _ (length l) at ∙ best_map (nearer_plan d) h (get_or l 0 0) (λ i. get_or l i 0) (length l)
