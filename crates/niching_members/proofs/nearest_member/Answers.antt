use Rattle.std.proofs.Common.{◌≡◌, ap, ◌∙◌, arith, length}
use Rattle.model.specs.Lists.{keep_below}
use Rattle.model.specs.Kept.{nearest}
use Rattle.niching_array_laws.specs.Niche.{waits_on, place_distance}
use Rattle.niching_array_laws.proofs.Nearest.{nearest-first, nearest-more}
use Rattle.niching_members.proofs.nearest_member.Goals as goal

pub loop-i-init : goal.loop-i-init
loop-i-init c = nearest-first _ _ _ _ c.requires.2

pub loop-i-preserved : goal.loop-i-preserved
loop-i-preserved c = nearest-more c.loop-i.invariant c.loop-i-test.true _ c.nearer-best.ensures

pub returns : goal.returns
returns c =
    let l = c.loop-i in
    let a = c.args in
    let e : l.i ≡ length a.front.now = omega (arith, c.requires.2.one.below) in
    let f = waits_on a.front.now a.lines.now a.taken.now a.l in
    (l.invariant.one, l.invariant.least ∙ ap (λ t. nearest (place_distance a.front.now a.distances.now) (keep_below f t)) e)
