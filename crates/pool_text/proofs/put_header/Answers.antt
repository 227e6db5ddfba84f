-- `put_header`: the two words and the two numbers.
use mathlib.Core.Path.{sym}
use Rattle.pool_laws.specs.Text.{headings}
use Rattle.list_laws.proofs.Stores.{put_as}
use Rattle.pool_laws.proofs.Puts.{room_1, room_2, room_3, room_4, put_four}
use Rattle.pool_laws.proofs.Listing.{header-text}
use Rattle.pool_text.proofs.put_header.Goals as goal

pub put_bytes-a-requires : goal.put_bytes-a-requires
put_bytes-a-requires c =
    let a = c.args in
    room_1 a.out.now a.at (headings a.count a.kept) (rw (header-text a.count a.kept) at c.requires)

pub put_number-b-requires : goal.put_number-b-requires
put_number-b-requires c =
    let a = c.args in
    room_2 _ a.at (headings a.count a.kept) (rw (header-text a.count a.kept) at c.requires) _ _ c.put_bytes-a.ensures

pub put_bytes-c-requires : goal.put_bytes-c-requires
put_bytes-c-requires c =
    let a = c.args in
    room_3 _ a.at (headings a.count a.kept) (rw (header-text a.count a.kept) at c.requires) _ _ c.put_bytes-a.ensures _ _ c.put_number-b.ensures

pub put_number-requires : goal.put_number-requires
put_number-requires c =
    let a = c.args in
    room_4 _ a.at (headings a.count a.kept) (rw (header-text a.count a.kept) at c.requires) _ _ c.put_bytes-a.ensures _ _ c.put_number-b.ensures
    _ _ c.put_bytes-c.ensures

pub returns : goal.returns
returns c =
    let a = c.args in
    put_as _ _ _ _ _ _ (sym (header-text a.count a.kept))
    (put_four _ a.at (headings a.count a.kept) (rw (header-text a.count a.kept) at c.requires) _ _ c.put_bytes-a.ensures _ _ c.put_number-b.ensures
    _ _ c.put_bytes-c.ensures _ _ c.put_number.ensures)
