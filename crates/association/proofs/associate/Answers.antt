use Rattle.association_laws.proofs.Request.{all_steps}
use Rattle.association.proofs.associate.Goals as goal

-- what the four steps leave is what document 01 says of the request
pub returns : goal.returns
returns c r e P S L k =
    let a = c.args in
    all_steps r a.edition e a.rows.now a.n a.m c.requires.7 P a.table.now a.n_lines L k a.ideal.now _ S c.update_ideal_point.ensures _ _ c.find_edition_intercepts.ensures _ _
    c.normalize_objectives.ensures.normalized_after _ _ _ _ c.associate_to_reference_points.ensures
