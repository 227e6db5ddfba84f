-- what the search finds over the columns is each plan's nearest line
use Rattle.std.proofs.Common.{◌*◌, ◌≤◌, ℕ, arith}
use native.Mathlib.Nat.{mul-le-mul}
use lib.Ieee.{of_bits}
use Rattle.model.specs.Plan.{max_objectives}
use Rattle.columns.specs.Block.{max_block}
use Rattle.block_lines.proofs.Laid.{start-found, block-handed}
use Rattle.block_lines.proofs.nearest_block.Goals as goal

-- the block has room for the columns
small : (m len : ℕ) → m ≤ max_objectives → len ≤ max_block → m * len ≤ 1024
small m len h k = mul-le-mul {n₂ = max_objectives} {m₂ = max_block} h k

pub lay-requires : goal.lay-requires
lay-requires c = (omega arith, small _ _ c.requires.1 c.requires.2)

pub search-requires : goal.search-requires
unfolding of_bits
search-requires c =
    let s = small _ _ c.requires.1 c.requires.2 in
    (omega arith, omega arith, omega arith, omega arith, c.requires.5, omega arith, omega arith, start-found _ _ _ max_block (omega arith))

pub returns : goal.returns
returns c =
    let a = c.args in
    block-handed a.edition a.points.now a.m a.start a.len _ _ a.table.now a.n_lines c.lay.ensures _ _ _ _ _ _ c.search.ensures c.hand_out.ensures
