use Rattle.std.proofs.Common.{◌≡◌, sym, arith}
use lib.Ieee.{nan, neg, of_bits}
use Rattle.model.specs.Real.{sum_to}
use Rattle.list_laws.proofs.Built.{over_none, over-set, over_below}
use Rattle.association_laws.specs.Flat.{from}
use Rattle.association_laws.proofs.Search.{squares_long}
use Rattle.columns.specs.Block.{plan_at}
use Rattle.columns.proofs.three_squares.Goals as goal

pub loop-b-init : goal.loop-b-init
loop-b-init c = sym (over_none _ _)

pub loop-b-preserved : goal.loop-b-preserved
unfolding sum_to of_bits neg
loop-b-preserved c =
    let l = c.loop-b in
    let a = c.args in
    let s = sym (squares_long 3 (plan_at a.x.now a.len l.b) (from a.table.now a.line_at) a.norm c.requires.3 c.requires.4) in
    over-set _ _ _ _ _ (omega arith) l.invariant s

pub returns : goal.returns
returns c =
    let e : c.loop-b.b ≡ c.args.len = omega arith in
    record { at = λ b h. over_below _ _ _ _ b nan c.loop-b.invariant (omega arith) }
