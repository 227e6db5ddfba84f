-- The place of first keeping: where it is, and with one more entry kept.
use Prim.Native.Nat.{ℕ, suc, ◌+◌, ◌≤◌, ◌<◌}
use mathlib.Core.Path.{◌≡◌, refl, ap, sym, ◌∙◌}
use mathlib.Core.Bool.{Bool, cond}
use mathlib.Core.Logic.{◌⊎◌, ⊎_elim}
use mathlib.Core.List.{List, [], ◌∷◌, ◌++◌}
use native.Mathlib.Nat.{eq-or-lt_of_le}
use native.Mathlib.Numerals.{add-one}
use native.Mathlib.Omega.{arith}
use borrow.Author.Tests.{lt-ltb, le-ltb, eq-eqb, ne_eqb, eqb-true, eqb-false}
use lib.Dec.{eqb}
use lib.ListN.{length, get_or, take, length-append, get_or-append}
use lib.Seq.{length-take-le, get_or-append_seam}
use Rattle.model.specs.Lists.{first_below, place_in, Distinct}
use Rattle.model.specs.PoolFile.{place_of}
use Rattle.list_laws.proofs.Bools.{by_bool}
use Rattle.list_laws.proofs.Built.{take_more}
use Rattle.list_laws.proofs.First.{first_below_none, first_below_le, first_below_still, first_below_yes, first_below_no, first_below-at, first_below-passes, first_below-same}
use Rattle.list_laws.proofs.Members.{different-places}
use Rattle.pool_laws.specs.Text.{Marked}

module _ (l : List ℕ) (p : ℕ) where
  abbrev test : ℕ → Bool
  test i = eqb (get_or l i 0) p

  found : place_in l p < length l → place_of l p ≡ suc (place_in l p)
  unfolding place_of
  found h = rw (lt-ltb (place_in l p) (length l) h)

  not_found : place_in l p ≡ length l → place_of l p ≡ 0
  unfolding place_of
  not_found h = rw (le-ltb (place_in l p) (length l) (omega arith))

  -- found, or not
  where_first : (place_in l p ≡ length l) ⊎ (place_in l p < length l)
  where_first = eq-or-lt_of_le (first_below_le test (length l))

  pub place_le : place_of l p ≤ length l
  place_le = ⊎_elim (λ h. omega (arith, not_found h)) (λ h. omega (arith, found h)) where_first

  -- a plan is kept at its place
  pub kept_there : (i : ℕ) → place_of l p ≡ suc i → get_or l i 0 ≡ p
  kept_there i e = ⊎_elim
      (λ h. absurd (omega (arith, not_found h)))
      (λ h. let w : place_in l p ≡ i = omega (arith, found h) in
      ap (λ (j : ℕ). get_or l j 0) (sym w) ∙ eqb-true (get_or l (place_in l p) 0) p (first_below-passes test (length l) h))
      where_first

-- a plan's place is where it is kept, if it is kept once
pub place-once : (l : List ℕ) → Distinct l → (i : ℕ) → i < length l → place_of l (get_or l i 0) ≡ suc i
place-once l d i h =
    let k = first_below-at (test l (get_or l i 0)) (length l) i h (eq-eqb (get_or l i 0) (get_or l i 0) refl)
    (λ t u. ne_eqb (get_or l t 0) (get_or l i 0) (λ e. let z = different-places l d t i (omega arith) h e in omega arith)) in
    found l (get_or l i 0) (omega arith) ∙ ap suc k

pub place_nil : (p : ℕ) → place_of [] p ≡ 0
place_nil p = not_found [] p (first_below_none (test [] p))

-- ---- one more entry

module _ (l : List ℕ) (x p : ℕ) where
  abbrev longer : List ℕ
  longer = l ++ (x ∷ [])

  size : length longer ≡ length l + 1
  size = length-append l (x ∷ [])

  old : first_below (test longer p) (length l) ≡ place_in l p
  old = first_below-same (test longer p) (test l p) (length l) (λ t h. ap (λ (y : ℕ). eqb y p) (get_or-append l (x ∷ []) 0 t h))

  last : test longer p (length l) ≡ eqb x p
  last = ap (λ (y : ℕ). eqb y p) (get_or-append_seam l x [] 0)

  stays : place_in l p < length l → place_of longer p ≡ place_of l p
  stays h =
      let e : place_in longer p ≡ place_in l p = ap (first_below (test longer p)) size ∙ first_below_still (test longer p) (length l) (omega (arith, old)) ∙ old in
      found longer p (omega (arith, size)) ∙ ap suc e ∙ sym (found l p h)

  -- it is another plan
  place_other : (x ≡ p → ⊥) → place_of longer p ≡ place_of l p
  place_other z = ⊎_elim
      (λ h. not_found longer p (ap (first_below (test longer p)) size ∙ first_below_no (test longer p) (length l) (old ∙ h) (last ∙ ne_eqb x p z) ∙ sym size)
      ∙ sym (not_found l p h))
      stays
      (where_first l p)

  -- it is this plan: its place is the last unless it has one
  place_here : x ≡ p → place_of longer p ≡ cond (eqb (place_of l p) 0) (length l + 1) (place_of l p)
  place_here z = ⊎_elim
      (λ h. let e : place_in longer p ≡ length l = ap (first_below (test longer p)) size ∙ first_below_yes (test longer p) (length l) (old ∙ h) (last ∙ eq-eqb x p z) in
      found longer p (omega (arith, size)) ∙ ap suc e ∙ rw (not_found l p h) (sym (add-one (length l))))
      (λ h. stays h ∙ rw (found l p h, ne_eqb (suc (place_in l p)) 0 (λ v. omega arith)))
      (where_first l p)

-- entry i marked: the place of every plan among the first i + 1 is right
pub marked_more : (kept before after : List ℕ) (i p n : ℕ) → n ≡ length before → i < length kept → p ≡ get_or kept i 0 → Marked before p i after
    → ((q : ℕ) → q < n → get_or before q 0 ≡ place_of (take i kept) q) → (q : ℕ) → q < n → get_or after q 0 ≡ place_of (take (i + 1) kept) q
marked_more kept before after i p n s l e m f q h =
    marked ∙ sym (ap (λ (t : List ℕ). place_of t q) (take_more 0 kept i l))
  where
    marked : get_or after q 0 ≡ place_of (take i kept ++ (get_or kept i 0 ∷ [])) q
    marked = by_bool (eqb p q)
        (λ v. let w : p ≡ q = eqb-true p q v in
        ap (λ (k : ℕ). get_or after k 0) (sym w) ∙ m.here (omega arith)
        ∙ ap (λ (k : ℕ). cond (eqb (get_or before k 0) 0) (i + 1) (get_or before k 0)) w
        ∙ ap (λ (k : ℕ). cond (eqb k 0) (i + 1) k) (f q h)
        ∙ ap (λ (k : ℕ). cond (eqb (place_of (take i kept) q) 0) (k + 1) (place_of (take i kept) q)) (sym (length-take-le i kept (omega arith)))
        ∙ sym (place_here (take i kept) (get_or kept i 0) q (sym e ∙ w)))
        (λ v. let w : p ≡ q → ⊥ = eqb-false p q v in
        m.others q (λ z. w (sym z)) ∙ f q h ∙ sym (place_other (take i kept) (get_or kept i 0) q (λ z. w (e ∙ z))))
