-- A selection hands out as many fronts and lines as there are plans; the listing of slices that begin with its lists.
use Prim.Native.Nat.{ℕ, ◌<◌}
use mathlib.Core.Path.{◌≡◌, ap, ap₂, sym, ◌∙◌}
use mathlib.Core.List.{List, ◌++◌}
use native.Mathlib.Omega.{arith}
use lib.ListN.{length, get_or, take, length-replicate}
use Rattle.model.specs.Lists.{over}
use Rattle.model.specs.Front.{front_list}
use Rattle.model.specs.Association.{Request}
use Rattle.model.specs.Kept.{Selected, selected, selected_split, selected_whole, without_line, line_mark}
use Rattle.model.specs.PoolFile.{header_text, plan_text, listing_text}
use Rattle.list_laws.proofs.Built.{list_below-length, join_below-same, over-take, over-at}
use Rattle.niching_laws.proofs.KeptLength.{kept-length, by-split, fronts-all}
use Rattle.pool_laws.specs.Text.{listed}

-- ---- fronts and lines are as many as the plans

fronts-count : (r : Request) → length (selected r).fronts ≡ r.count
unfolding front_list
fronts-count r = ap length (fronts-all r) ∙ list_below-length _ r.count

lines-count : (r : Request) → length (selected r).lines ≡ r.count
unfolding selected_split selected_whole
lines-count r = by-split r (λ s. length s.lines ≡ r.count) (list_below-length (line_mark r) r.count) (length-replicate r.count without_line)

-- ---- the listing

listing-same : (count : ℕ) (a b : Selected) → a.kept ≡ b.kept → ((p : ℕ) → p < count → get_or a.fronts p 0 ≡ get_or b.fronts p 0)
    → ((p : ℕ) → p < count → get_or a.lines p 0 ≡ get_or b.lines p 0) → listing_text count a ≡ listing_text count b
unfolding listing_text plan_text
listing-same count a b e f g =
    ap₂ (λ s t. s ++ t) (ap (λ k. header_text count (length k)) e)
    (join_below-same (plan_text a) (plan_text b) count (λ p h. rw (e, f p h, g p h)))

-- of slices whose front is what a selection hands out
pub listing-over : (r : Request) (n : ℕ) → n ≡ r.size → (kept fronts lines k f l : List ℕ) → kept ≡ over (selected r).kept k → fronts ≡ over (selected r).fronts f
    → lines ≡ over (selected r).lines l → listing_text r.count (listed (take n kept) fronts lines) ≡ listing_text r.count (selected r)
listing-over r n e kept fronts lines k f l a b c =
    let m = fronts-count r in
    let o = lines-count r in
    listing-same r.count (listed (take n kept) fronts lines) (selected r)
    (ap (take n) a ∙ over-take (selected r).kept k n (kept-length r ∙ sym e))
    (λ p h. ap (λ t. get_or t p 0) b ∙ over-at (selected r).fronts f p 0 (omega arith))
    (λ p h. ap (λ t. get_or t p 0) c ∙ over-at (selected r).lines l p 0 (omega arith))
