use Rattle.std.proofs.Common.{arith, get_or}
use Rattle.niching_array_laws.specs.Niche.{line_in}
use Rattle.niching_array_laws.proofs.Counting.{counted_none, counted-more, counted_le, counted-all}
use Rattle.niching.proofs.count_lines.Goals as goal

pub loop-p-init : goal.loop-p-init
loop-p-init c = counted_none _ _ _ c.requires.1

pub overflow_add-counts : goal.overflow_add-counts
overflow_add-counts c =
    let l = c.loop-p in
    omega (arith, counted_le l.invariant (omega arith) (line_in c.args.lines.now (get_or c.args.plans.now l.p-index 0)))

pub loop-p-preserved : goal.loop-p-preserved
loop-p-preserved c =
    let l = c.loop-p in
    let u = c.loop-p-test.true in
    counted-more l.invariant u (omega (arith, c.requires.0 l.p-index u))

pub returns : goal.returns
returns c = counted-all c.loop-p.invariant (omega arith)
