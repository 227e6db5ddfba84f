-- `write_listing`: the places, the header, the lines.
use Prim.Native.Nat.{ℕ, ◌<◌}
use mathlib.Core.Path.{◌≡◌, ◌∙◌}
use native.Mathlib.Nat.{zero-add}
use native.Mathlib.Omega.{arith}
use lib.ListN.{get_or, length-replicate, get_or-replicate}
use Rattle.model.specs.PoolFile.{place_of}
use Rattle.model.specs.declared.Edition.TheVariants.{First}
use Rattle.model.specs.Edition.{most_plans}
use Rattle.list_laws.proofs.Stores.{put-over}
use Rattle.pool_laws.proofs.Listing.{header-room, rows-room, listing-put}
use Rattle.pool_text.proofs.write_listing.Goals as goal
use Rattle.pool_text.proofs.write_listing.Goals.{After-mark_places}

right : (c : After-mark_places) (p : ℕ) → p < c.args.count
    → get_or c.mark_places.new.places p 0 ≡ place_of c.args.kept.now p
right c p l = c.mark_places.ensures p (omega (arith, length-replicate {A = ℕ} (most_plans First) 0, c.requires.count_bound.0))

pub mark_places-requires : goal.mark_places-requires
mark_places-requires c p h = get_or-replicate (most_plans First) p 0 0 (omega (arith, length-replicate {A = ℕ} (most_plans First) 0))

pub put_header-at-requires : goal.put_header-at-requires
put_header-at-requires c =
    let a = c.args in
    header-room a.count a.kept.now a.fronts.now a.lines.now c.mark_places.new.places (right (goal.at.put_header-at-requires c).After-mark_places) a.out.now c.requires.lines_in_bounds

pub put_plans-requires : goal.put_plans-requires
put_plans-requires c =
    let a = c.args in record { count_in_bounds = (c.requires.count_bound.1, c.requires.count_bound.2, omega (arith, c.mark_places.auto.places, length-replicate {A = ℕ} (most_plans First) 0, c.requires.count_bound.0)); count_in_bounds_2 = rows-room a.count a.kept.now a.fronts.now a.lines.now c.mark_places.new.places (right (goal.at.put_plans-requires c).After-mark_places) a.out.now c.requires.lines_in_bounds _ _ c.put_header-at.ensures }

pub returns : goal.returns
returns c =
    let a = c.args in
    let p = listing-put a.count a.kept.now a.fronts.now a.lines.now c.mark_places.new.places (right (goal.at.returns c).After-mark_places) a.out.now c.requires.lines_in_bounds _ _ c.put_header-at.ensures _ _
    c.put_plans.ensures in
    record { count = p.ends ∙ zero-add _; text = put-over _ _ _ _ c.requires.lines_in_bounds p }
