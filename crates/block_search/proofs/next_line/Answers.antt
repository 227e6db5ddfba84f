-- a line that is too short is nearer to no plan; else the squares decide
use Rattle.std.proofs.Common.{arith}
use lib.Ieee.{nan, neg, of_bits}
use lib.ListN.{get_or-replicate}
use Rattle.model.specs.Real.{minus_nought}
use Rattle.columns.specs.Block.{max_block}
use Rattle.block_search.specs.Turn.{block_distance}
use Rattle.block_search.proofs.Turns.{turn_short, turn_squares}
use Rattle.block_search.proofs.next_line.Goals as goal

pub returns-then-norm : goal.returns-then-norm
unfolding of_bits
returns-then-norm c =
    let a = c.args in
    turn_short a.edition a.x.now a.m a.len a.table.now a.line a.norm _ _ c.requires.3 c.if-norm.true c.requires.6

pub line_squares-requires : goal.line_squares-requires
unfolding of_bits neg
line_squares-requires c = (omega arith, omega arith, omega arith, omega arith, record { at = λ b h. get_or-replicate max_block b minus_nought nan (omega arith) }, c.requires.3, c.if-norm.false)

pub returns : goal.returns
returns c =
    let a = c.args in
    c.keep.ensures (block_distance a.edition a.x.now a.m a.len a.table.now) c.requires.6
    (turn_squares a.edition a.x.now a.m a.len a.table.now a.line _ c.line_squares.ensures)
