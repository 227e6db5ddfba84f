-- A line's number: how many of the split front's plans on it are not yet listed. A line is open just where its number is above 0, and a pick, however it is made,
-- lowers the number of its plan's line by one and no other.
use Prim.Native.Nat.{ℕ, ◌+◌, ◌<◌}
use mathlib.Core.Path.{◌≡◌, refl, ap, ap₂, sym, ◌∙◌}
use mathlib.Core.Logic.{◌≢◌, ⊎_elim}
use mathlib.Core.Bool.{Bool, true, false, not, ◌&&◌, ◌||◌, or-true, or-false}
use mathlib.Core.List.Memᴰ
use mathlib.Core.List.{List, [], ◌∷◌, ◌++◌, map, Nodup-cons}
use native.Mathlib.Omega.{arith}
use borrow.Author.Tests.{eq-eqb, ne_eqb, eqb-true, eqb-false}
use lib.Dec.{eqb, ltb}
use lib.Ieee.{Float}
use lib.ListN.{length}
use Rattle.model.specs.Lists.{one, In, Distinct, has, keep, keep_below, tally}
use Rattle.model.specs.Kept.{niche_count, waiting, waiting_number, open_lines, pick_one}
use Rattle.list_laws.specs.Occ.{occ}
use Rattle.list_laws.proofs.Bools.{by_bool, and_no}
use Rattle.list_laws.proofs.Below.{by_lt}
use Rattle.list_laws.proofs.Members.{tally_nil, tally_cons, tally-same, keep-length, keep_same, has_nil, has_cons, has-append, has-occ, not-has, occ_nil, occ_cons, occ-other, occ_in, first-apart}
use Rattle.list_laws.proofs.Kept.{keep_below-same, keep-keep}
use Rattle.niching_laws.specs.Niching.{Split, Waiting, Lowered}
use Rattle.niching_laws.proofs.Picks.{pick_one-chosen, in_waiting}

-- ---- tallies

-- how often a number stands in a list's images is how many entries have it as theirs
pub occ-map : (f : ℕ → ℕ) (q : ℕ) (l : List ℕ) → occ q (map f l) ≡ tally (λ p. eqb (f p) q) l
unfolding occ tally
occ-map f q [] = refl
occ-map f q (x ∷ l) = ap (λ t. one (eqb (f x) q) + t) (occ-map f q l)

-- those that pass among the kept pass both tests
tally-keep : (f g : ℕ → Bool) (l : List ℕ) → tally f (keep g l) ≡ tally (λ p. g p && f p) l
tally-keep f g l = sym (keep-length f (keep g l)) ∙ ap length (keep-keep f g l) ∙ keep-length (λ p. g p && f p) l

-- where p alone no longer passes, the tally falls by as often as p is listed
tally_fall : (f g : ℕ → Bool) (p : ℕ) (l : List ℕ) → ((q : ℕ) → one (f q) ≡ one (g q) + one (eqb q p)) → tally f l ≡ tally g l + occ p l
tally_fall f g p [] h = omega (arith, tally_nil f, tally_nil g, occ_nil p)
tally_fall f g p (x ∷ l) h = omega (arith, tally_cons f x l, tally_cons g x l, occ_cons p x l, h x, tally_fall f g p l h)

-- and of different plans each is listed once
not_listed : (p : ℕ) (l : List ℕ) → (In p l → ⊥) → occ p l ≡ 0
not_listed p l h = by_lt 0 (occ p l) (λ u. absurd (h (occ_in p l u))) (λ u. omega arith)

once : (p : ℕ) (l : List ℕ) → Distinct l → In p l → occ p l ≡ 1
once p [] d m = absurd (Memᴰ.not-nil m)
once p (x ∷ l) d m = ⊎_elim
    (λ e. omega (arith, occ_cons p x l, ap one (eq-eqb x p (sym e)), not_listed p l (λ k. first-apart d (Memᴰ.cast (sym e) k))))
    (λ k. occ-other p x l (λ e. first-apart d (Memᴰ.cast e k)) ∙ once p l (Nodup-cons.0 d).1 k)
    (Memᴰ.cases_cons m)

-- ---- the numbers before a pick

module _ (line : ℕ → ℕ) (split picked : List ℕ) where
  -- a line has a number above 0 exactly where it has a plan waiting
  pub number-above : (l : ℕ) → ltb 0 (waiting_number line split picked l) ≡ has (map line (waiting split picked)) l
  number-above l = ap (ltb 0) (sym (occ-map line l (waiting split picked))) ∙ sym (has-occ (map line (waiting split picked)) l)

  -- so the lines among which one is chosen are read off the numbers
  pub open_by-number : (lines : ℕ) → open_lines line lines (waiting split picked) ≡ keep_below (λ l. ltb 0 (waiting_number line split picked l)) lines
  open_by-number lines = keep_below-same _ _ lines (λ l u. sym (number-above l))

-- before the first pick a line's number is that of all the split front's plans on it
pub number-first : (line : ℕ → ℕ) (split : List ℕ) (l : ℕ) → waiting_number line split [] l ≡ niche_count line split l
number-first line split l =
    tally-keep (λ p. eqb (line p) l) (λ p. not (has [] p)) split
    ∙ tally-same _ _ split (λ q m. ap (λ b. not b && eqb (line q) l) (has_nil q))

-- the plans kept before are none of the split front's, so it is the same whether or not they count as listed
pub number-listed : {before front : List ℕ} {line : ℕ → ℕ} {lines : ℕ} → Split before front line lines → (picked : List ℕ) (l : ℕ)
    → waiting_number line front (before ++ picked) l ≡ waiting_number line front picked l
number-listed {before} {front} {line} split picked l =
    ap (tally (λ p. eqb (line p) l)) (keep_same _ _ front (λ q m. ap not (has-append before picked q ∙ ap (λ b. b || has picked q) (not-has before q (split.apart q m)))))

-- ---- a pick

module _ (picked : List ℕ) (p : ℕ) where
  -- p is among the picked now, and no other
  pub has_more : (q : ℕ) → has (picked ++ (p ∷ [])) q ≡ (has picked q || eqb p q)
  has_more q = has-append picked (p ∷ []) q ∙ ap (λ b. has picked q || b) (has_cons p [] q ∙ ap (λ b. eqb p q || b) (has_nil q) ∙ or-false (eqb p q))

  pub has_new : (q : ℕ) → p ≡ q → has (picked ++ (p ∷ [])) q ≡ true
  has_new q e = has_more q ∙ ap (λ b. has picked q || b) (eq-eqb p q e) ∙ or-true (has picked q)

  pub has_old : (q : ℕ) → p ≢ q → has (picked ++ (p ∷ [])) q ≡ has picked q
  has_old q e = has_more q ∙ ap (λ b. has picked q || b) (ne_eqb p q e) ∙ or-false (has picked q)

-- whichever plan that waits is taken
module _ (line : ℕ → ℕ) (front picked : List ℕ) (p : ℕ) where
  -- q waits on line l, before the pick and after it
  abbrev waits : ℕ → ℕ → Bool
  waits l q = not (has picked q) && eqb (line q) l

  abbrev waits_still : ℕ → ℕ → Bool
  waits_still l q = not (has (picked ++ (p ∷ [])) q) && eqb (line q) l

  still : (l q : ℕ) → p ≢ q → waits_still l q ≡ waits l q
  still l q e = ap (λ b. not b && eqb (line q) l) (has_old picked p q e)

  gone : (l q : ℕ) → p ≡ q → waits_still l q ≡ false
  gone l q e = ap (λ b. not b && eqb (line q) l) (has_new picked p q e)

  pub lowered : Distinct front → Waiting front picked p → Lowered line front picked p
  lowered d w = record {
    own = omega (
      arith,
      tally-keep (λ q. eqb (line q) (line p)) (λ q. not (has picked q)) front,
      tally-keep (λ q. eqb (line q) (line p)) (λ q. not (has (picked ++ (p ∷ [])) q)) front,
      tally_fall (waits (line p)) (waits_still (line p)) p front fall,
      once p front d w.member,
    );
    others = λ l e. tally-keep (λ q. eqb (line q) l) (λ q. not (has (picked ++ (p ∷ [])) q)) front
        ∙ tally-same (waits_still l) (waits l) front (λ q m. stays l e q) ∙ sym (tally-keep (λ q. eqb (line q) l) (λ q. not (has picked q)) front);
  }
    where
      waited : (q : ℕ) → p ≡ q → waits (line p) q ≡ true
      waited q e = ap₂ (λ a b. not a && b) (ap (has picked) (sym e) ∙ not-has picked p w.unpicked) (eq-eqb (line q) (line p) (ap line (sym e)))

      fall : (q : ℕ) → one (waits (line p) q) ≡ one (waits_still (line p) q) + one (eqb q p)
      fall q = by_bool (eqb q p)
          (λ e. let v : p ≡ q = sym (eqb-true q p e) in omega (arith, ap one (waited q v), ap one (gone (line p) q v), ap one e))
          (λ e. omega (arith, ap one (still (line p) q (λ v. eqb-false q p e (sym v))), ap one e))

      stays : (l : ℕ) → line p ≢ l → (q : ℕ) → waits_still l q ≡ waits l q
      stays l e q = by_bool (eqb p q)
          (λ v. let s = eqb-true p q v in
          let n = ne_eqb (line q) l (λ k. e (ap line s ∙ k)) in
          and_no (not (has (picked ++ (p ∷ [])) q)) (eqb (line q) l) n ∙ sym (and_no (not (has picked q)) (eqb (line q) l) n))
          (λ v. still l q (eqb-false p q v))

-- as document 01 takes the next plan, nearest or drawn
pub pick_lowers : (distance : ℕ → Float) {before front : List ℕ} {line : ℕ → ℕ} {lines : ℕ} → Split before front line lines → (s : ℕ) (picked : List ℕ)
    → length picked < length front → Lowered line front picked (pick_one line distance lines before front picked s).value
pick_lowers distance {before} {front} {line} {lines} split s picked h =
    let p : ℕ = (pick_one line distance lines before front picked s).value in
    lowered line front picked p split.distinct (in_waiting front picked p (pick_one-chosen distance split s picked h).listed)
