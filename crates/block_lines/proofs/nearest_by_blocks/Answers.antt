use Rattle.std.proofs.Common.{◌≡◌, ◌+◌, sym, arith}
use Rattle.list_laws.proofs.Built.{over_none}
use Rattle.block_lines.proofs.Laid.{block-after}
use Rattle.block_lines.proofs.nearest_by_blocks.Goals as goal

pub loop-start-init : goal.loop-start-init
loop-start-init c = record { inside = omega arith; nearest = record { line = sym (over_none _ _); distance = sym (over_none _ _) } }

pub loop-start-preserved : goal.loop-start-preserved
loop-start-preserved c =
    let l = c.loop-start in
    let a = c.args in
    let e : c.min-len.result ≡ 128 = omega arith in
    let after = block-after a.edition a.points.now a.m a.table.now a.n_lines l.start _ _ _ _ _ _ _ (omega arith) (omega arith) l.invariant.nearest c.nearest_block.ensures in
    record { inside = omega arith; nearest = rw e at after }

pub returns : goal.returns
returns c =
    let e : c.loop-start.start ≡ c.args.n = omega arith in
    rw e at c.loop-start.invariant.nearest

-- after the last block
pub returns-2 : goal.returns-2
returns-2 c =
    let l = c.loop-start in
    let a = c.args in
    let e : l.start + c.min-len.result ≡ a.n = omega arith in
    let after = block-after a.edition a.points.now a.m a.table.now a.n_lines l.start _ _ _ _ _ _ _ (omega arith) (omega arith) l.invariant.nearest c.nearest_block.ensures in
    rw e at after
