-- The marks of the picks (document 02, M-108): each tells the niche count of the picked plan's line among the plans listed before it.
use Prim.Native.Nat.{ℕ, zero, suc, ◌≤◌, ◌<◌}
use mathlib.Core.Path.{◌≡◌, refl, sym, ap, ap₂, subst, ◌∙◌}
use mathlib.Core.Bool.{true, false, ◌||◌}
use mathlib.Core.List.{List, [], ◌++◌}
use native.Mathlib.Omega.{arith}
use lib.Dec.{eqb}
use lib.Ieee.{Float}
use lib.ListN.{length, get_or, take}
use borrow.Author.Tests.{ne_eqb}
use lib.Seq.{get_or_at, get_or-take, take_all, take-append-le}
use Rattle.model.specs.declared.Rule.TheVariants as rule
use Rattle.model.specs.Lists.{In, tally}
use Rattle.model.specs.Draw.{Drawn, in_turn, draw_all}
use Rattle.model.specs.Kept.{niche_count, pick_one, picks, mark_of, rule_of, count_at_pick, pick_rules}
use Rattle.niching_laws.specs.Niching.{Split, RuledPicks}
use Rattle.list_laws.proofs.Below.{last_or}
use Rattle.list_laws.proofs.Built.{list_below-length, list_below-at}
use Rattle.list_laws.proofs.Draws.{draw_all-length}
use Rattle.list_laws.proofs.Members.{tally-all, tally-same, place_of}
use Rattle.niching_laws.proofs.Picks.{count-at_pick}

-- ---- values drawn one after the other: the first of them, and the one at a place

module _ {A : Type 0} (next : ℕ → List A → ℕ → Drawn A) where
  pub draw_all-take : (n s i : ℕ) → i ≤ n → take i (draw_all next n s).value ≡ (draw_all next i s).value
  unfolding in_turn
  draw_all-take zero s zero h = refl
  draw_all-take zero s (suc _) h = elim h [ ]
  draw_all-take (suc n) s i h = last_or {k = i} {n = suc n} (omega arith)
      (λ e. rw e (take_all (suc n) (draw_all next (suc n) s).value (omega (arith, draw_all-length next (suc n) s))))
      (λ l. take-append-le i (draw_all next n s).value _ (omega (arith, draw_all-length next n s)) ∙ draw_all-take n s i (omega arith))

  pub draw_all-at : (n s i : ℕ) (d : A) → i < n → get_or (draw_all next n s).value i d ≡ (next i (draw_all next i s).value (draw_all next i s).state).value
  unfolding in_turn
  draw_all-at n s i d h =
      sym (get_or-take (suc i) (draw_all next n s).value i d (omega arith))
      ∙ ap (λ l. get_or l i d) (draw_all-take n s (suc i) h)
      ∙ get_or_at (draw_all next i s).value _ [] d i (draw_all-length next i s)

-- ---- the mark of a count

pub mark-whole : (count : ℕ) → eqb (mark_of (rule_of count)) (mark_of rule.WholeFront) ≡ false
mark-whole zero = refl
mark-whole (suc count) = refl

pub mark-nearest : (count : ℕ) → eqb (mark_of (rule_of count)) (mark_of rule.Nearest) ≡ eqb count 0
mark-nearest zero = refl
mark-nearest (suc count) = sym (ne_eqb (suc count) 0 (λ e. omega arith))

pub mark-picked : (count : ℕ) → (eqb (mark_of (rule_of count)) (mark_of rule.Nearest) || eqb (mark_of (rule_of count)) (mark_of rule.Drawn)) ≡ true
mark-picked zero = refl
mark-picked (suc count) = refl

pub mark-padding : (count : ℕ) → eqb (mark_of (rule_of count)) (mark_of rule.Padding) ≡ false
mark-padding zero = refl
mark-padding (suc count) = refl

-- ---- the marks of n picks

module _ (line : ℕ → ℕ) (distance : ℕ → Float) (lines : ℕ) (before front : List ℕ) where
  -- that of pick i, by the count that it finds
  abbrev pub mark_at : ℕ → ℕ → ℕ
  mark_at s i =
      let so_far = picks line distance lines before front i s in
      mark_of (rule_of (count_at_pick line lines before front so_far.value so_far.state))

  pub pick_rules-length : (n s : ℕ) → length (pick_rules line distance lines before front n s) ≡ n
  unfolding pick_rules
  pick_rules-length n s = list_below-length (mark_at s) n

  pub pick_rules-at : (n s i : ℕ) → i < n → get_or (pick_rules line distance lines before front n s) i 0 ≡ mark_at s i
  unfolding pick_rules
  pick_rules-at n s i h = list_below-at (mark_at s) n 0 i h

  -- each is that of a plan nearest or drawn
  pub pick_rules-all : (n s : ℕ) → tally (λ m. eqb m (mark_of rule.Nearest) || eqb m (mark_of rule.Drawn)) (pick_rules line distance lines before front n s) ≡ n
  pick_rules-all n s =
      tally-same (λ m. eqb m (mark_of rule.Nearest) || eqb m (mark_of rule.Drawn)) (λ m. true) (pick_rules line distance lines before front n s) each
      ∙ tally-all (pick_rules line distance lines before front n s) ∙ pick_rules-length n s
    where
      marked : (i : ℕ) → (eqb (mark_at s i) (mark_of rule.Nearest) || eqb (mark_at s i) (mark_of rule.Drawn)) ≡ true
      marked i =
          let so_far = picks line distance lines before front i s in
          mark-picked (count_at_pick line lines before front so_far.value so_far.state)

      each : (q : ℕ) → In q (pick_rules line distance lines before front n s) → (eqb q (mark_of rule.Nearest) || eqb q (mark_of rule.Drawn)) ≡ true
      each q m =
          let t = place_of m in
          let e : mark_at s t.0 ≡ q = sym (pick_rules-at n s t.0 (omega (arith, t.1, pick_rules-length n s))) ∙ t.2 in
          subst (λ (k : ℕ). (eqb k (mark_of rule.Nearest) || eqb k (mark_of rule.Drawn)) ≡ true) e (marked t.0)

-- THE LAW: with no more open places than the front has plans, a pick's mark tells the niche count of the plan's line among those listed before it
pub picks-ruled : (distance : ℕ → Float) {before front : List ℕ} {line : ℕ → ℕ} {lines : ℕ} → Split before front line lines → (n s : ℕ) → n ≤ length front
    → RuledPicks before line n (picks line distance lines before front n s).value (pick_rules line distance lines before front n s)
picks-ruled distance {before} {front} {line} {lines} split n s room = record { long = pick_rules-length line distance lines before front n s; each = each }
  where
    one : ℕ → List ℕ → ℕ → Drawn ℕ
    one place picked = pick_one line distance lines before front picked

    each : (i : ℕ) → i < n → get_or (pick_rules line distance lines before front n s) i 0
        ≡ mark_of (rule_of (niche_count line (before ++ take i (picks line distance lines before front n s).value) (line (get_or (picks line distance lines before front n s).value i 0))))
    each i h =
        let so_far = picks line distance lines before front i s in
        pick_rules-at line distance lines before front n s i h
        ∙ ap (λ c. mark_of (rule_of c)) (count-at_pick distance split so_far.state so_far.value (omega (arith, draw_all-length one i s)))
        ∙ ap₂ (λ l p. mark_of (rule_of (niche_count line (before ++ l) (line p)))) (sym (draw_all-take one n s i (omega arith))) (sym (draw_all-at one n s i 0 h))
