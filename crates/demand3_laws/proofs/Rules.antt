-- M-108 of document 02: what the list of rules beside a kept list says, where a front is split, where none is, and where the pool is smaller than the size.
use Prim.Native.Nat.{ℕ, zero, suc, ◌+◌, ◌-◌, ◌≤◌, ◌<◌}
use mathlib.Core.Path.{◌≡◌, refl, sym, ap, ap₂, ◌∙◌, subst}
use mathlib.Core.Logic.{⊎_elim}
use mathlib.Core.Bool.{Bool, true, false, ◌&&◌, ◌||◌}
use mathlib.Core.List.{List, ◌++◌}
use native.Mathlib.Omega.{arith}
use lib.Dec.{eqb, leb, ltb}
use lib.ListN.{length, get_or, take, replicate, length-replicate, get_or-replicate, get_or-append}
use lib.Seq.{get_or-append-add, take-append-add}
use borrow.Author.Tests.{lt-ltb, le-ltb, le-leb, lt-leb}
use Rattle.model.specs.declared.Rule.TheVariants as rule
use Rattle.model.specs.Lists.{tally}
use Rattle.model.specs.Association.{Request, dominance, line_count, association, line_of}
use Rattle.model.specs.Kept.{niche_count, mark_of, rule_of, before, is_split, split_front, filled, filled_rules, whole_rules, whole_fronts, selected_split, selected_whole, selected}
use Rattle.model.specs.Demand3.{Split, size_of_first, open_places}
use Rattle.model.specs.Rules.{Ruled}
use Rattle.list_laws.proofs.Bools.{by_bool}
use Rattle.list_laws.proofs.Below.{by_lt}
use Rattle.list_laws.proofs.Members.{tally-append}
use Rattle.front_laws.specs.Strict.{Strict}
use Rattle.front_laws.proofs.Order.{listing-room}
use Rattle.niching_laws.proofs.KeptLength.{kept-length, rules-length}
use Rattle.niching_laws.proofs.Rules.{mark-whole, mark-nearest, mark-padding, pick_rules-all, picks-ruled}
use Rattle.demand3_laws.proofs.Sizes.{size_of_len, split-room, split-many, split_only, whole-reach, whole_none}
use Rattle.demand3_laws.proofs.Demand3.{setting}

-- no plan of a whole front, and none that pads the list, is nearest or drawn
none_picked : (n mark : ℕ) → (eqb mark (mark_of rule.Nearest) || eqb mark (mark_of rule.Drawn)) ≡ false
    → tally (λ m. eqb m (mark_of rule.Nearest) || eqb m (mark_of rule.Drawn)) (replicate n mark) ≡ 0
unfolding tally
none_picked zero mark e = refl
none_picked (suc n) mark e = rw e (omega (arith, none_picked n mark e))

module _ (r : Request) where
  -- ---- the marks of the whole fronts, and those behind them

  rule_within : (rest : List ℕ) (i : ℕ) → i < length (before r) → get_or (whole_rules r ++ rest) i 0 ≡ mark_of rule.WholeFront
  rule_within rest i h =
      get_or-append (whole_rules r) rest 0 i (omega (arith, length-replicate (length (before r)) (mark_of rule.WholeFront)))
      ∙ get_or-replicate (length (before r)) i (mark_of rule.WholeFront) 0 h

  rule_behind : (rest : List ℕ) (j : ℕ) → get_or (whole_rules r ++ rest) (length (before r) + j) 0 ≡ get_or rest j 0
  rule_behind rest j =
      ap (λ n. get_or (whole_rules r ++ rest) (n + j) 0) (sym (length-replicate (length (before r)) (mark_of rule.WholeFront)))
      ∙ get_or-append-add (whole_rules r) rest j 0

  -- a place behind the whole fronts, counted from them
  behind : (P : ℕ → Type 0) (i : ℕ) → length (before r) ≤ i → P (length (before r) + (i - length (before r))) → P i
  behind P i h p = subst P (omega arith) p

  -- ---- a front is split

  module _ (some : 0 < line_count r) (split : is_split r ≡ true) where
    abbrev list : List ℕ
    list = before r ++ (filled r).value

    abbrev marks : List ℕ
    marks = whole_rules r ++ filled_rules r

    -- the niche count of a place's line among the plans listed before it
    abbrev found : ℕ → ℕ
    found i = niche_count (line_of r) (take i list) (line_of r (get_or list i 0))

    picked-mark : (i : ℕ) → length (before r) ≤ i → i < r.size → get_or marks i 0 ≡ mark_of (rule_of (found i))
    unfolding filled filled_rules
    picked-mark i h k =
        let j = i - length (before r) in
        behind (λ i. get_or marks i 0 ≡ mark_of (rule_of (found i))) i h
        (rule_behind (filled_rules r) j
        ∙ (picks-ruled (λ p. (association r p).distance) (setting r some split) (r.size - length (before r)) r.state (split-room r split)).each j (omega arith)
        ∙ ap₂ (λ l p. mark_of (rule_of (niche_count (line_of r) l (line_of r p)))) (sym (take-append-add (before r) (filled r).value j))
        (sym (get_or-append-add (before r) (filled r).value j 0)))

    -- one mark is that of a plan nearest or drawn for each open place
    picked_open : (k : ℕ) → Split r k → tally (λ m. eqb m (mark_of rule.Nearest) || eqb m (mark_of rule.Drawn)) marks ≡ open_places r k
    unfolding filled_rules before
    picked_open k s =
        let test : ℕ → Bool = λ m. eqb m (mark_of rule.Nearest) || eqb m (mark_of rule.Drawn) in
        omega (
          arith,
          tally-append test (whole_rules r) (filled_rules r),
          none_picked (length (before r)) (mark_of rule.WholeFront) refl,
          pick_rules-all (line_of r) (λ p. (association r p).distance) (line_count r) (before r) (split_front r) (r.size - length (before r)) r.state,
          size_of_len r (whole_fronts r),
          ap (size_of_first r) (split_only r split k s),
        )

    split-ruled : length list ≡ r.size → length marks ≡ r.size → Ruled r list marks
    split-ruled a b = record { long = b ∙ sym a; whole = whole; padding = padding; nearest = nearest; picked = picked_open }
      where
        mark : (m i : ℕ) (b : Bool) → i < length list → (i < length (before r) → eqb (mark_of rule.WholeFront) m ≡ b)
            → (length (before r) ≤ i → eqb (mark_of (rule_of (found i))) m ≡ b) → eqb (get_or marks i 0) m ≡ b
        mark m i b h f g = by_lt i (length (before r))
            (λ l. ap (λ k. eqb k m) (rule_within (filled_rules r) i l) ∙ f l)
            (λ l. ap (λ k. eqb k m) (picked-mark i l (omega arith)) ∙ g l)

        whole : (i : ℕ) → i < length list → eqb (get_or marks i 0) (mark_of rule.WholeFront) ≡ ltb i (length (before r))
        whole i h = mark (mark_of rule.WholeFront) i (ltb i (length (before r))) h
            (λ l. sym (lt-ltb i (length (before r)) l)) (λ l. mark-whole (found i) ∙ sym (le-ltb i (length (before r)) l))

        padding : (i : ℕ) → i < length list → eqb (get_or marks i 0) (mark_of rule.Padding) ≡ leb r.count i
        padding i h =
            let inside : leb r.count i ≡ false = lt-leb r.count i (omega (arith, split-many r split)) in
            mark (mark_of rule.Padding) i (leb r.count i) h (λ l. sym inside) (λ l. mark-padding (found i) ∙ sym inside)

        nearest : (i : ℕ) → i < length list → eqb (get_or marks i 0) (mark_of rule.Nearest) ≡ (leb (length (before r)) i && (ltb i r.count && eqb (found i) 0))
        nearest i h =
            let inside : ltb i r.count ≡ true = lt-ltb i r.count (omega (arith, split-many r split)) in
            mark (mark_of rule.Nearest) i (leb (length (before r)) i && (ltb i r.count && eqb (found i) 0)) h
            (λ l. sym (ap (λ t. t && (ltb i r.count && eqb (found i) 0)) (lt-leb (length (before r)) i l)))
            (λ l. mark-nearest (found i) ∙ sym (ap₂ (λ t u. t && (u && eqb (found i) 0)) (le-leb (length (before r)) i l) inside))

  -- ---- no front is split

  module _ (strict : Strict (dominance r) r.count) (none : is_split r ≡ false) where
    abbrev padded : List ℕ
    padded = whole_rules r ++ replicate (r.size - length (before r)) (mark_of rule.Padding)

    -- past the whole fronts each place is padded, and the pool has no plan left
    padded-mark : (i : ℕ) → length (before r) ≤ i → i < r.size → get_or padded i 0 ≡ mark_of rule.Padding
    padded-mark i h k =
        let j = i - length (before r) in
        behind (λ i. get_or padded i 0 ≡ mark_of rule.Padding) i h
        (rule_behind (replicate (r.size - length (before r)) (mark_of rule.Padding)) j
        ∙ get_or-replicate (r.size - length (before r)) j (mark_of rule.Padding) 0 (omega arith))

    no_plan_lem : (i : ℕ) → length (before r) ≤ i → i < r.size → r.count ≤ i
    no_plan_lem i h k = ⊎_elim (λ e. absurd (omega arith)) (λ e. omega arith) (whole-reach r strict none)

    before-room : length (before r) ≤ r.count
    unfolding before
    before-room = listing-room (dominance r) r.count (whole_fronts r)

    whole-ruled : (kept : List ℕ) → length kept ≡ r.size → length padded ≡ r.size → Ruled r kept padded
    whole-ruled kept a b = record { long = b ∙ sym a; whole = whole; padding = padding; nearest = nearest; picked = λ k s. absurd (whole_none r strict none k s) }
      where
        mark : (m i : ℕ) (b : Bool) → i < length kept → (i < length (before r) → eqb (mark_of rule.WholeFront) m ≡ b)
            → (length (before r) ≤ i → eqb (mark_of rule.Padding) m ≡ b) → eqb (get_or padded i 0) m ≡ b
        mark m i b h f g = by_lt i (length (before r))
            (λ l. ap (λ k. eqb k m) (rule_within (replicate (r.size - length (before r)) (mark_of rule.Padding)) i l) ∙ f l)
            (λ l. ap (λ k. eqb k m) (padded-mark i l (omega arith)) ∙ g l)

        whole : (i : ℕ) → i < length kept → eqb (get_or padded i 0) (mark_of rule.WholeFront) ≡ ltb i (length (before r))
        whole i h = mark (mark_of rule.WholeFront) i (ltb i (length (before r))) h
            (λ l. sym (lt-ltb i (length (before r)) l)) (λ l. sym (le-ltb i (length (before r)) l))

        padding : (i : ℕ) → i < length kept → eqb (get_or padded i 0) (mark_of rule.Padding) ≡ leb r.count i
        padding i h = mark (mark_of rule.Padding) i (leb r.count i) h
            (λ l. sym (lt-leb r.count i (omega (arith, before-room)))) (λ l. sym (le-leb r.count i (no_plan_lem i l (omega arith))))

        nearest : (i : ℕ) → i < length kept → eqb (get_or padded i 0) (mark_of rule.Nearest)
            ≡ (leb (length (before r)) i && (ltb i r.count && eqb (niche_count (line_of r) (take i kept) (line_of r (get_or kept i 0))) 0))
        nearest i h =
            let last : Bool = eqb (niche_count (line_of r) (take i kept) (line_of r (get_or kept i 0))) 0 in
            mark (mark_of rule.Nearest) i (leb (length (before r)) i && (ltb i r.count && last)) h
            (λ l. sym (ap (λ t. t && (ltb i r.count && last)) (lt-leb (length (before r)) i l)))
            (λ l. sym (ap₂ (λ t u. t && (u && last)) (le-leb (length (before r)) i l) (le-ltb i r.count (no_plan_lem i l (omega arith)))))

  -- ---- all

  pub ruled_strict : Strict (dominance r) r.count → 0 < line_count r → Ruled r (selected r).kept (selected r).rules
  unfolding selected selected_split selected_whole
  ruled_strict strict some = by_bool (is_split r)
      (λ e. rw e (split-ruled some e (rw e at (kept-length r)) (rw e at (rules-length r))))
      (λ e. rw e (whole-ruled strict e _ (rw e at (kept-length r)) (rw e at (rules-length r))))
