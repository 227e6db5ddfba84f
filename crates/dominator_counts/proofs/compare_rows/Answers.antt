use Rattle.std.proofs.Common.{◌≡◌, sym, arith}
use Rattle.model.specs.Row.{dominates}
use Rattle.list_laws.proofs.Tests.{any_below_none, any_below-more}
use Rattle.dominator_counts.proofs.compare_rows.Goals as goal

pub loop-j-init : goal.loop-j-init
loop-j-init c = record { first = sym (any_below_none _); second = sym (any_below_none _) }

pub loop-j-preserved : goal.loop-j-preserved
loop-j-preserved c =
    let l = c.loop-j in record {
      first = rw l.invariant.first (sym (any_below-more _ _));
      second = rw l.invariant.second (sym (any_below-more _ _));
    }

pub returns : goal.returns
unfolding dominates
returns c =
    let l = c.loop-j in
    let e : l.j ≡ c.args.m = omega arith in
    let x = rw e at l.invariant.first in
    let y = rw e at l.invariant.second in
    rw (← x, ← y) c.winner_of.ensures
