-- What is picked is below n; and the picks look at the lines of the plans of the whole fronts and of the split one, and the order of the distances of those of the
-- split one on one line alone: where these agree, they give the same picks, with the same marks.
use Prim.Native.Nat.{ℕ, zero, suc, ◌≤◌, ◌<◌}
use mathlib.Core.Path.{◌≡◌, refl, ap, ap₂, sym, subst, ◌∙◌, fun_ext}
use mathlib.Core.Logic.{⊎_elim}
use mathlib.Core.Bool.{Bool}
use mathlib.Core.List.Memᴰ
use mathlib.Core.List.{List, [], ◌∷◌, ◌++◌, map}
use native.Mathlib.Omega.{arith}
use borrow.Author.Tests.{eqb-true}
use lib.Dec.{eqb}
use lib.Ieee.{Float, lt}
use lib.ListN.{length, get_or, length-append, get_or-eq_default}
use Rattle.model.specs.Lists.{In, has, keep, keep_below, best_from}
use Rattle.model.specs.Draw.{Drawn, drawn, draw_all}
use Rattle.model.specs.Kept.{niche_count, waiting, open_lines, least_lines, draw_from, nearest, draw_member, pick_one, picks, pick_from, nearer_plan, mark_of, rule_of, count_at_pick, pick_rules}
use Rattle.list_laws.proofs.Below.{by_lt}
use Rattle.list_laws.proofs.Built.{list_below-same}
use Rattle.list_laws.proofs.Best.{best_all, best_agree}
pub use Rattle.list_laws.specs.Occ.{Below}
use Rattle.list_laws.proofs.Members.{tally-same, keep_same, in_keep, in_snoc, get_d_in, below_none, below_snoc}
use Rattle.list_laws.proofs.Draws.{in_turn-same, draw_all-keeps}
use Rattle.niching_laws.specs.Niching.{Split}
use Rattle.niching_laws.proofs.Picks.{in_waiting, pick_one-chosen}
use Rattle.niching_laws.proofs.Rules.{mark_at}

-- a list of draws below n is below n
pub draw_all-below : (n : ℕ) (next : ℕ → List ℕ → ℕ → Drawn ℕ) → ((i : ℕ) (l : List ℕ) (t : ℕ) → (next i l t).value < n) → (k s : ℕ) → Below n (draw_all next k s).value
draw_all-below n next each k s = (draw_all-keeps next (λ i. Below n) s k (below_none n) (λ i l t u e h. below_snoc n l _ h (each i l t))).1

module _ (n : ℕ) (some : 0 < n) where
  -- ---- what is picked is below n

  keep-below : (f : ℕ → Bool) (l : List ℕ) → Below n l → Below n (keep f l)
  keep-below f l h q m = h q (in_keep f l q m).0

  at-below : (l : List ℕ) (i : ℕ) → Below n l → get_or l i 0 < n
  at-below l i h = by_lt i (length l) (λ u. h (get_or l i 0) (get_d_in l i u)) (λ u. rw (get_or-eq_default l 0 u) some)

  nearest-below : (far : ℕ → Float) (l : List ℕ) → Below n l → nearest far l < n
  unfolding nearest
  nearest-below far l h = best_all (nearer_plan far) (λ p. p < n) (get_or l 0 0) (λ i. get_or l i 0) (length l) (at-below l 0 h) (λ t u. at-below l t h)

  member_below : (far : ℕ → Float) (count : ℕ) (l : List ℕ) (s : ℕ) → Below n l → (draw_member far count l s).value < n
  unfolding draw_member draw_from
  member_below far zero l s h = nearest-below far l h
  member_below far (suc count) l s h = at-below l _ h

  module _ (line : ℕ → ℕ) (far : ℕ → Float) (lines : ℕ) (before split : List ℕ) (within : Below n split) where
    pick_below : (picked : List ℕ) (s : ℕ) → (pick_one line far lines before split picked s).value < n
    unfolding pick_one
    pick_below picked s = member_below far _ _ _ (keep-below _ (waiting split picked) (keep-below _ split within))

    pub picks-below : (k s : ℕ) → Below n (picks line far lines before split k s).value
    picks-below k s = draw_all-below n (λ place picked. pick_one line far lines before split picked) (λ i. pick_below) k s

-- ---- only those that may be listed are looked at

module _ (line line' : ℕ → ℕ) where
  counts_agree : (l : List ℕ) → ((q : ℕ) → In q l → line q ≡ line' q) → niche_count line l ≡ niche_count line' l
  counts_agree l h = fun_ext (λ k. tally-same _ _ l (λ q m. ap (λ t. eqb t k) (h q m)))

  map_agree : (l : List ℕ) → ((q : ℕ) → In q l → line q ≡ line' q) → map line l ≡ map line' l
  map_agree [] h = refl
  map_agree (x ∷ l) h = ap₂ (λ a b. a ∷ b) (h x (Memᴰ.head refl)) (map_agree l (λ q m. h q (Memᴰ.tail m)))

  members_agree : (l : List ℕ) → ((q : ℕ) → In q l → line q ≡ line' q) → ◌≡◌ {A = ℕ → List ℕ} (λ v. keep (λ p. eqb (line p) v) l) (λ v. keep (λ p. eqb (line' p) v) l)
  members_agree l h = fun_ext (λ v. keep_same _ _ l (λ q m. ap (λ t. eqb t v) (h q m)))

module _ (line : ℕ → ℕ) (far far' : ℕ → Float) (split : List ℕ)
    (close : (p q : ℕ) → In p split → In q split → line p ≡ line q → lt (far p) (far q) ≡ lt (far' p) (far' q)) where
  -- every one listed is of the split front and on line v
  abbrev On : ℕ → List ℕ → Type 0
  On v l = (q : ℕ) → In q l → In q split × (line q ≡ v)

  nearest_agree : (v : ℕ) (l : List ℕ) → On v l → nearest far l ≡ nearest far' l
  unfolding nearest best_from
  nearest_agree v [] h = refl
  nearest_agree v (x ∷ l) h = best_agree (nearer_plan far) (nearer_plan far') (λ p. In p split × (line p ≡ v)) x (λ i. get_or (x ∷ l) i 0) (length (x ∷ l))
      (h x (Memᴰ.head refl)) (λ t u. h (get_or (x ∷ l) t 0) (get_d_in (x ∷ l) t u)) (λ p q u w. close p q u.0 w.0 (u.1 ∙ sym w.1))

  member_agree : (v count : ℕ) (l : List ℕ) (s : ℕ) → On v l → draw_member far count l s ≡ draw_member far' count l s
  unfolding draw_member
  member_agree v zero l s h = ap (λ p. drawn p s) (nearest_agree v l h)
  member_agree v (suc count) l s h = refl

module _ {before split : List ℕ} {line : ℕ → ℕ} {lines : ℕ} (S : Split before split line lines) (line' : ℕ → ℕ) (far far' : ℕ → Float)
    (ahead : (p : ℕ) → In p before → line p ≡ line' p) (agree : (p : ℕ) → In p split → line p ≡ line' p)
    (close : (p q : ℕ) → In p split → In q split → line p ≡ line q → lt (far p) (far q) ≡ lt (far' p) (far' q)) where
  -- what is picked is of the split front
  abbrev Of : ℕ → List ℕ → Type 0
  Of i picked = (length picked ≡ i) × ((q : ℕ) → In q picked → In q split)

  pick_of : (i : ℕ) (picked : List ℕ) (t : ℕ) → i < length split → Of i picked → Of (suc i) (picked ++ ((pick_one line far lines before split picked t).value ∷ []))
  pick_of i picked t u h =
      let p = (pick_one line far lines before split picked t).value in (
        length-append picked (p ∷ []) ∙ omega (arith, h.0),
        λ q m. ⊎_elim (h.1 q) (λ e. subst (λ x. In x split) (sym e) (in_waiting split picked p (pick_one-chosen far S t picked (omega (arith, h.0))).listed).member) (in_snoc picked p q m),
      )

  waits-of : (picked : List ℕ) (q : ℕ) → In q (waiting split picked) → In q split
  waits-of picked q m = (in_waiting split picked q m).member

  so_far : (picked : List ℕ) → ((q : ℕ) → In q picked → In q split) → (q : ℕ) → In q (before ++ picked) → line q ≡ line' q
  so_far picked h q m = ⊎_elim (ahead q) (λ k. agree q (h q k)) (Memᴰ.append_cases before m)

  pick_agree : (picked : List ℕ) (s : ℕ) → ((q : ℕ) → In q picked → In q split) → pick_one line far lines before split picked s ≡ pick_one line' far' lines before split picked s
  unfolding pick_one
  pick_agree picked s h =
      let w = waiting split picked in
      let k : (q : ℕ) → In q w → line q ≡ line' q = λ q m. agree q (waits-of picked q m) in
      ap (λ c. pick_from far c (open_lines line lines w) (λ v. keep (λ p. eqb (line p) v) w) s) (counts_agree line line' (before ++ picked) (so_far picked h))
      ∙ ap (λ o. pick_from far (niche_count line' (before ++ picked)) (keep_below (has o) lines) (λ v. keep (λ p. eqb (line p) v) w) s) (map_agree line line' w k)
      ∙ ap (λ m. pick_from far (niche_count line' (before ++ picked)) (open_lines line' lines w) m s) (members_agree line line' w k)
      ∙ member_agree line far far' split close _ _ _ _ (λ q m. let i = in_keep _ w q m in let u = waits-of picked q i.0 in (u, agree q u ∙ eqb-true _ _ i.1))

  -- THE LAW
  pub picks_agree : (k s : ℕ) → k ≤ length split → picks line far lines before split k s ≡ picks line' far' lines before split k s
  picks_agree k s room =
      in_turn-same (λ l p. l ++ (p ∷ [])) [] (λ place picked. pick_one line far lines before split picked) (λ place picked. pick_one line' far' lines before split picked)
      Of s k (refl, λ q m. absurd (Memᴰ.not-nil m)) (λ i picked t u h. pick_of i picked t (omega arith) h)
      (λ i picked t u h. pick_agree picked t h.1)

  -- the count that a pick finds, and so its mark
  count_agree : (picked : List ℕ) (s : ℕ) → ((q : ℕ) → In q picked → In q split) → count_at_pick line lines before split picked s ≡ count_at_pick line' lines before split picked s
  unfolding count_at_pick
  count_agree picked s h =
      let w = waiting split picked in
      ap (λ c. c (draw_from (least_lines c (open_lines line lines w)) s).value) (counts_agree line line' (before ++ picked) (so_far picked h))
      ∙ ap (λ o. niche_count line' (before ++ picked) (draw_from (least_lines (niche_count line' (before ++ picked)) (keep_below (has o) lines)) s).value)
      (map_agree line line' w (λ q m. agree q (waits-of picked q m)))

  picks_of : (k s : ℕ) → k ≤ length split → Of k (picks line far lines before split k s).value
  picks_of k s room = (draw_all-keeps (λ place picked. pick_one line far lines before split picked) Of s k (refl, λ q m. absurd (Memᴰ.not-nil m))
      (λ i picked t u e h. pick_of i picked t (omega arith) h)).1

  pub rules_agree : (k s : ℕ) → k ≤ length split → pick_rules line far lines before split k s ≡ pick_rules line' far' lines before split k s
  unfolding pick_rules
  rules_agree k s room = list_below-same (mark_at line far lines before split s) (mark_at line' far' lines before split s) k
      (λ i h. ap (λ c. mark_of (rule_of c))
      (count_agree (picks line far lines before split i s).value (picks line far lines before split i s).state (picks_of i s (omega arith)).1
      ∙ ap (λ d. count_at_pick line' lines before split d.value d.state) (picks_agree i s (omega arith))))
