-- in one pass, or p·r, divided by r·r, and the squares off the line
use Rattle.std.proofs.Common.{arith}
use lib.Ieee.{nan, neg, of_bits}
use lib.ListN.{get_or-replicate}
use Rattle.model.specs.Real.{minus_nought}
use Rattle.association_laws.specs.Flat.{from}
use Rattle.columns.specs.Block.{max_block}
use Rattle.columns.proofs.Passes.{passes-square}
use Rattle.columns.proofs.line_squares.Goals as goal

pub dots-requires : goal.dots-requires
unfolding of_bits neg
dots-requires c = (omega arith, omega arith, omega arith, record { at = λ b h. get_or-replicate max_block b minus_nought nan (omega arith) })

pub returns-else-m-eq3 : goal.returns-else-m-eq3
returns-else-m-eq3 c =
    let a = c.args in
    passes-square a.x.now a.m a.len (from a.table.now a.line_at) a.norm _ _ _ c.requires.5 c.requires.6 c.dots.ensures c.divide.ensures c.off_squares.ensures
