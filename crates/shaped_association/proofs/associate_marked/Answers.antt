-- the marked plans are listed, their rows laid, associated, and what they have put back at their places
use Rattle.std.proofs.Common.{◌≤◌, arith, length, get_or}
use Rattle.model.specs.Refusal.{max_pool}
use Rattle.list_laws.proofs.Limits.{row-values}
use Rattle.list_laws.proofs.Rows.{row_within}
use Rattle.shaped_association.proofs.Shaped.{place_inside, few-places, shapers_in, lined}
use Rattle.shaped_association.proofs.associate_marked.Goals as goal

pub gather_rows-requires : goal.gather_rows-requires
gather_rows-requires c =
    let a = c.args in
    let l = c.list_marked-k in
    let few : l.result ≤ max_pool = omega (arith, l.ensures.0, few-places a.marks.now a.n, c.requires.1) in (
      omega (arith, few, l.auto.places),
      row-values l.result a.m few c.requires.0,
      λ i u. row_within (get_or l.new.places i 0) a.n a.m (length a.rows.now)
          (place_inside a.marks.now a.n l.result l.ensures.0 _ l.new.places l.ensures.1 i u) c.requires.3,
    )

pub associate-requires : goal.associate-requires
associate-requires c =
    let a = c.args in
    let l = c.list_marked-k in
    let few : l.result ≤ max_pool = omega (arith, l.ensures.0, few-places a.marks.now a.n, c.requires.1) in
    let values = row-values l.result a.m few c.requires.0 in (
      c.requires.0,
      values,
      omega (arith, values, c.gather_rows.auto.out),
      c.requires.4,
      c.requires.5,
      few,
      few,
      omega (arith, l.ensures.0, c.requires.8),
    )

pub spread-requires : goal.spread-requires
spread-requires c =
    let few = few-places c.args.marks.now c.args.n in (
      c.requires.2,
      c.requires.6,
      c.requires.7,
      omega (arith, few, c.requires.1, c.associate.auto.ideal),
      omega (arith, few, c.requires.1, c.associate.auto.ideal),
    )

pub returns : goal.returns
returns c r e S z L k =
    let a = c.args in
    let l = c.list_marked-k in
    let rows = shapers_in r a.marks.now a.rows.now a.n a.m S l.result l.ensures.0 _ _ l.ensures.1 _ _ c.gather_rows.ensures in
    lined r a.marks.now a.rows.now a.n a.m S l.result l.ensures.0 _ _ _ _ _ _
    (c.associate.ensures r e rows z L k) _ _ _ _ c.spread.ensures
