use Rattle.std.proofs.Common.{◌≡◌, ◌*◌, ap, sym, subst, ◌∙◌, arith}
use lib.Ieee.{div, of_bits}
use Rattle.model.specs.Association.{measure_of}
use Rattle.association_laws.specs.Flat.{from, distance_at}
use Rattle.association_laws.specs.Search.{Square}
use Rattle.association_laws.proofs.Search.{distance_measure, found_none}
use Rattle.association_laws.proofs.Squares.{squares_square}
use Rattle.association.proofs.nearest_line.Goals as goal

pub loop-l-init : goal.loop-l-init
unfolding div of_bits
loop-l-init c = found_none _ _

pub loop-l-preserved : goal.loop-l-preserved
loop-l-preserved c =
    let l = c.loop-l in
    let a = c.args in
    let p = from a.points.now a.at in
    let r = from a.table.now (l.l * a.m) in
    let s = c.distance_squared-squares.ensures in
    c.nearer-best.ensures (distance_at a.edition a.points.now a.at a.m a.table.now) l.invariant
    (subst Square (sym s) (squares_square a.m p r)) (ap (measure_of a.edition) s ∙ sym (distance_measure a.edition a.m p r))

pub returns : goal.returns
returns c =
    let l = c.loop-l in
    let e : l.l ≡ c.args.n_lines = omega arith in
    let f = rw e at l.invariant in
    (f.nearest, c.measure.ensures ∙ f.measured)
