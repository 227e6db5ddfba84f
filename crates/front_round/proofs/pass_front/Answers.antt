use Rattle.std.proofs.Common.{◌≤◌, arith, length}
use Rattle.front_laws.proofs.Passing.{passing_first, ranks-kept, member_still, passing_fair, passing_room, passing_more}
use Rattle.front_round.proofs.pass_front.Goals as goal

pub loop-i-init : goal.loop-i-init
loop-i-init c = passing_first _ _ _ _ _ _ _ _

-- the member whose turn it is is one of the n plans
pub bounds-rank-p : goal.bounds-rank-p
bounds-rank-p c =
    let l = c.loop-i in
    let u = c.loop-i-test.true in
    omega (
      arith,
      member_still _ _ _ _ _ _ _ _ l.i _ _ _ _ l.invariant u,
      c.requires.1.plans l.i l.auto.i u,
      ranks-kept _ _ _ _ _ _ _ _ _ _ _ _ _ l.invariant,
    )

pub offset_bounds-rank-p : goal.offset_bounds-rank-p
offset_bounds-rank-p c =
    let l = c.loop-i in
    let u = c.loop-i-test.true in
    omega (arith, member_still _ _ _ _ _ _ _ _ l.i _ _ _ _ l.invariant u, c.requires.1.plans l.i l.auto.i u)

pub release-len-requires : goal.release-len-requires
release-len-requires c =
    let l = c.loop-i in
    let a = c.requires.1 in
    let u = c.loop-i-test.true in
    let big : c.args.n ≤ length l.counts = omega (arith, a.counted) in (
      c.requires.0,
      record {
        plan = omega (arith, member_still _ _ _ _ _ _ _ _ l.i _ _ _ _ l.invariant u, a.plans l.i l.auto.i u);
        counted = big;
        fair = λ t v. passing_fair _ _ _ _ _ _ _ _ _ _ _ _ _ l.invariant l.auto.i u a.inside t v (a.fair t v);
        room = passing_room _ _ _ _ _ _ _ _ _ _ _ _ _ l.invariant l.auto.i u a.inside a.room;
      },
    )

pub loop-i-preserved : goal.loop-i-preserved
loop-i-preserved c =
    let l = c.loop-i in
    passing_more _ _ _ _ _ _ _ _ _ _ _ _ _ l.invariant _ _ _ l.auto.i c.loop-i-test.true c.requires.1.inside c.release-len.ensures
