-- four fields, one after the other
use Rattle.pool_laws.specs.Text.{fields, fields_text}
use Rattle.pool_laws.proofs.Puts.{room_1, room_2, room_3, room_4, put_four}
use Rattle.pool_text.proofs.put_plan.Goals as goal

pub put_number-a-requires : goal.put_number-a-requires
unfolding fields_text
put_number-a-requires c =
    let a = c.args in
    room_1 a.out.now a.at (fields a.p a.front a.line a.place) c.requires

pub put_number-b-requires : goal.put_number-b-requires
unfolding fields_text
put_number-b-requires c =
    let a = c.args in
    room_2 _ a.at (fields a.p a.front a.line a.place) c.requires _ _ c.put_number-a.ensures

pub put_line-c-requires : goal.put_line-c-requires
unfolding fields_text
put_line-c-requires c =
    let a = c.args in
    room_3 _ a.at (fields a.p a.front a.line a.place) c.requires _ _ c.put_number-a.ensures _ _ c.put_number-b.ensures

pub put_number-requires : goal.put_number-requires
unfolding fields_text
put_number-requires c =
    let a = c.args in
    room_4 _ a.at (fields a.p a.front a.line a.place) c.requires _ _ c.put_number-a.ensures _ _ c.put_number-b.ensures _ _ c.put_line-c.ensures

pub returns : goal.returns
unfolding fields_text
returns c =
    let a = c.args in
    put_four _ a.at (fields a.p a.front a.line a.place) c.requires _ _ c.put_number-a.ensures _ _ c.put_number-b.ensures _ _ c.put_line-c.ensures
    _ _ c.put_number.ensures
