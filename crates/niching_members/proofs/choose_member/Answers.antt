-- at count 0 the nearest, else the k-th, k drawn
use Rattle.std.proofs.Common.{arith, length}
use Rattle.rng_util.proofs.Draws.{drawn-below}
use Rattle.niching_array_laws.specs.Niche.{member_at, distance_in, waits_on, places}
use Rattle.niching_array_laws.proofs.Choosing.{member-nearest, member-drawn}
use Rattle.niching_members.proofs.choose_member.Goals as goal

pub nth_member-value-requires : goal.nth_member-value-requires
nth_member-value-requires c =
    (c.requires.0, omega (arith, c.requires.2, drawn-below c.args.waiting _ _ _ c.requires.3 c.draw_usize-d.ensures))

pub returns-then-count-eq0 : goal.returns-then-count-eq0
returns-then-count-eq0 c =
    let a = c.args in
    let p = places a.front.now a.lines.now a.taken.now a.l in (
      c.nearest_member-value.ensures.0,
      member-nearest (distance_in a.distances.now) (member_at a.front.now) p a.count c.nearest_member-value.result a.rng.s
          c.if-count-eq0.true (omega (arith, c.requires.2, c.requires.3)) c.nearest_member-value.ensures.1,
    )

pub returns : goal.returns
returns c =
    let a = c.args in
    let f = waits_on a.front.now a.lines.now a.taken.now a.l in
    let d = c.draw_usize-d in
    let h = c.nth_member-value.ensures in (
      h.one,
      member-drawn (distance_in a.distances.now) (member_at a.front.now) f (length a.front.now) a.count a.waiting
          d.result.value c.nth_member-value.result a.rng.s d.result.rng.s c.if-count-eq0.false
          c.requires.2 c.requires.3 d.ensures h,
    )
