use Rattle.std.proofs.Common.{ap, sym, ◌∙◌}
use Rattle.model.specs.Association.{measure_of}
use Rattle.association_laws.proofs.Search.{distance_measure}
use Rattle.distances.proofs.perpendicular_distance.Goals as goal

-- the edition's measure of the square
pub returns : goal.returns
returns c =
    let a = c.args in
    c.measure.ensures ∙ ap (measure_of a.edition) c.distance_squared.ensures ∙ sym (distance_measure a.edition _ _ _)
