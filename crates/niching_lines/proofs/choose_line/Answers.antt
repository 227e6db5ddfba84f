-- the k-th of the lines that have the least count
use Rattle.std.proofs.Common.{◌≡◌, ℕ, ◌<◌, List}
use Rattle.model.specs.Refusal.{max_pool}
use Rattle.rng_util.proofs.Draws.{drawn-below}
use Rattle.niching_array_laws.specs.Niche.{count_of, least_below, Open}
use Rattle.niching_array_laws.proofs.Least.{IsLeastOf, least_below_is, least-some}
use Rattle.niching_array_laws.proofs.Choosing.{chosen_open, chosen-line}
use Rattle.niching_lines.proofs.choose_line.Goals as goal

-- the count found is the least
least : (counts waits : List ℕ) (n r : ℕ) → ((l : ℕ) → count_of counts l < max_pool) → ((l : ℕ) × Open waits n l)
    → r ≡ least_below max_pool counts waits n → IsLeastOf counts waits n r
least counts waits n r few o e = rw e (least_below_is _ _ _ _ o.0 o.1 few)

pub draw_usize-d-requires : goal.draw_usize-d-requires
draw_usize-d-requires c =
    let o = least _ _ _ _ c.requires.2 c.requires.3 c.least_count-least.ensures in
    rw c.count_least-many.ensures (least-some _ _ _ _ o)

pub nth_least-value-requires : goal.nth_least-value-requires
nth_least-value-requires c =
    let o = least _ _ _ _ c.requires.2 c.requires.3 c.least_count-least.ensures in
    let e = c.count_least-many.ensures in
    (c.requires.0, c.requires.1, rw e at (drawn-below _ _ _ _ (rw e (least-some _ _ _ _ o)) c.draw_usize-d.ensures))

pub returns : goal.returns
returns c =
    let o = least _ _ _ _ c.requires.2 c.requires.3 c.least_count-least.ensures in
    let h = c.nth_least-value.ensures in
    (chosen_open _ _ _ _ _ _ o h, chosen-line _ _ _ _ _ _ o h _ _ _ c.count_least-many.ensures c.draw_usize-d.ensures)
