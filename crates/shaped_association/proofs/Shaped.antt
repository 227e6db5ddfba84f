-- What is worked out for the marked plans by themselves, back at their places, is what documents 01 and 02 say of the request.
use Prim.Native.Nat.{ℕ, ◌≤◌, ◌<◌}
use mathlib.Core.Path.{◌≡◌, ap, sym, subst, ◌∙◌}
use mathlib.Core.Bool.{Bool, true, cond}
use mathlib.Core.List.{List}
use native.Mathlib.Omega.{arith}
use lib.Ieee.{Float, nan}
use lib.ListN.{length, get_or}
use Rattle.model.specs.Lists.{keep_below, over}
use Rattle.model.specs.Real.{infinity}
use Rattle.model.specs.Association.{Request, value_of, shapes, shapers, association, line_of}
use Rattle.model.specs.Kept.{without_line, line_mark}
use Rattle.list_laws.specs.Rows.{flat_rows}
use Rattle.list_laws.proofs.Bools.{by_bool}
use Rattle.list_laws.proofs.Built.{over-same, over-at, over_below}
use Rattle.list_laws.proofs.Counts.{count_below_le}
use Rattle.list_laws.proofs.Kept.{keep_below-same, keep_below-length, keep_below-below, keep_below-room}
use Rattle.list_laws.proofs.Members.{get_d_in}
use Rattle.list_laws.proofs.Rows.{rows_at}
use Rattle.front_laws.specs.Flat.{row_at}
use Rattle.association_laws.specs.Request.{shaper_at, ShapersIn, Associates}
use Rattle.shapers.specs.Marked.{marked}
use Rattle.shaper_rows.specs.Gathered.{places_of, earlier, line_from, distance_from, Spreads}
use Rattle.shaper_rows.proofs.Ranks.{place_at}
use Rattle.shaped_association.specs.Lined.{Shaped, Lined}

-- the places that are listed are below n, and no more than n
pub place_inside : (marks : List Bool) (n k : ℕ) → k ≡ earlier marks n → (places₀ places : List ℕ) → places ≡ over (places_of marks n) places₀ → (i : ℕ) → i < k → get_or places i 0 < n
place_inside marks n k e places₀ places f i u =
    let h : i < earlier marks n = subst (λ t. i < t) e u in
    subst (λ p. p < n) (sym (ap (λ l. get_or l i 0) f ∙ over-at (places_of marks n) places₀ i 0 h)) (keep_below-below (marked marks) n _ (get_d_in (places_of marks n) i h))

pub few-places : (marks : List Bool) (n : ℕ) → earlier marks n ≤ n
few-places marks n = omega (arith, keep_below-length (marked marks) n, count_below_le (marked marks) n)

module _ (r : Request) (marks : List Bool) (rows : List Float) (n m : ℕ) (S : Shaped r marks rows n m) where
  -- the marked plans are those that shape the scale
  pub places_are : places_of marks n ≡ shapers r
  unfolding shapers
  places_are = keep_below-same (marked marks) (shapes r) n S.who ∙ ap (keep_below (shapes r)) S.count

  module _ (k : ℕ) (e : k ≡ earlier marks n) where
    count_is : k ≡ length (shapers r)
    count_is = e ∙ ap length places_are

    -- ---- their rows

    module _ (places₀ places : List ℕ) (f : places ≡ over (places_of marks n) places₀) where
      place_is : (i : ℕ) → i < k → get_or places i 0 ≡ shaper_at r i
      place_is i u = ap (λ l. get_or l i 0) f ∙ over-at (places_of marks n) places₀ i 0 (subst (λ t. i < t) e u) ∙ ap (λ l. get_or l i 0) places_are

      pub shapers_in : (out₀ out : List Float) → out ≡ over (flat_rows (λ i. row_at rows m (get_or places i 0)) k m) out₀ → ShapersIn r out k m
      shapers_in out₀ out g = record {
        count = count_is;
        width = S.width;
        values = λ i j u v.
            rows_at (λ i. row_at rows m (get_or places i 0)) k m nan out out₀ i j g u v
            ∙ S.values (get_or places i 0) j (place_inside marks n k e places₀ places f i u) v
            ∙ ap (λ p. value_of r p j) (place_is i u);
      }

    -- ---- their lines and distances

    -- a marked plan is that one of them which as many come before
    own-place : (p : ℕ) → p < n → marked marks p ≡ true → (earlier marks p < k) × (shaper_at r (earlier marks p) ≡ p)
    own-place p h t = (
      subst (λ x. earlier marks p < x) (sym e) (keep_below-room (marked marks) n p h t),
      ap (λ l. get_or l (earlier marks p) 0) (sym places_are) ∙ place_at (marked marks) n p h t,
    )

    module _ (ideal₀ ideal : List Float) (fromLines₀ from_lines : List ℕ) (fromFar₀ fromFar : List Float)
        (A : Associates r k m ideal₀ ideal fromLines₀ from_lines fromFar₀ fromFar) where
      line_is : (p : ℕ) → p < n → line_from marks from_lines p ≡ line_mark r p
      line_is p h = by_bool (marked marks p)
          (λ t. let o = own-place p h t in
          ap (λ b. cond b (get_or from_lines (earlier marks p) 0) without_line) t
          ∙ over_below (λ i. line_of r (shaper_at r i)) k from_lines fromLines₀ (earlier marks p) 0 A.nearest o.0 ∙ ap (line_of r) o.1
          ∙ sym (ap (λ b. cond b (line_of r p) without_line) (sym (S.who p h) ∙ t)))
          (λ t. ap (λ b. cond b (get_or from_lines (earlier marks p) 0) without_line) t
          ∙ sym (ap (λ b. cond b (line_of r p) without_line) (sym (S.who p h) ∙ t)))

      distance_is : (p : ℕ) → p < n → shapes r p ≡ true → distance_from marks fromFar p ≡ (association r p).distance
      distance_is p h s =
          let t : marked marks p ≡ true = S.who p h ∙ s in
          let o = own-place p h t in
          ap (λ b. cond b (get_or fromFar (earlier marks p) nan) infinity) t
          ∙ over_below (λ i. (association r (shaper_at r i)).distance) k fromFar fromFar₀ (earlier marks p) nan A.distance o.0
          ∙ ap (λ q. (association r q).distance) o.1

      -- THE LAW
      pub lined : (lines₀ lines : List ℕ) (distances₀ distances : List Float) → Spreads marks n from_lines fromFar lines₀ lines distances₀ distances
          → Lined r n m ideal₀ ideal lines₀ lines distances
      lined lines₀ lines distances₀ distances w = record {
        moved = A.moved;
        line = over-same (line_from marks from_lines) (line_mark r) n lines lines₀ line_is w.line;
        distance = λ p h s. over_below (distance_from marks fromFar) n distances distances₀ p nan w.distance h ∙ distance_is p h s;
      }
