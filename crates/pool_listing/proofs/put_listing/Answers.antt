-- `put_listing`: the text is written beside, and copied where there is room
use Prim.Native.Nat.{ℕ}
use mathlib.Core.List.{List}
use lib.ListN.{replicate}
use Rattle.model.specs.PoolFile.{listing_text}
use Rattle.model.specs.Calls.{max_text}
use Rattle.pool_laws.specs.Text.{listed}
use Rattle.pool_laws.proofs.Texts.{handed}
use Rattle.pool_listing.proofs.put_listing.Goals as goal

pub returns : goal.returns
returns c =
    let text-here : List ℕ = let a = c.args in
    listing_text a.count (listed a.kept.now a.fronts.now a.lines.now) in
    let out-here : List ℕ = c.args.out.now in
    handed text-here out-here _ c.write_listing-n.ensures.count c.if-out-n.false (replicate max_text 0) _ c.write_listing-n.ensures.text _ _ c.put_bytes.ensures
