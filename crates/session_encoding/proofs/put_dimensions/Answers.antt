use Rattle.std.proofs.Common.{ℕ, ◌≡◌, ◌+◌, ◌*◌, List, length, sym, ap, ap₂, ◌∙◌, arith}
use Rattle.std.proofs.lemmas.List.Edits.{sets}
use Rattle.model.specs.Lists.{join_below}
use Rattle.model.specs.Setting.{max_dims, dimensions_of}
use Rattle.list_laws.proofs.Built.{join_below_none}
use Rattle.list_laws.proofs.Rows.{run_join}
use Rattle.session_words.specs.Coding.{dimension_width, dimension_words}
use Rattle.session_encoding.proofs.Laid.{dimension_length}
use Rattle.session_encoding.proofs.put_dimensions.Goals as goal

pub loop-d-init : goal.loop-d-init
loop-d-init c = ap (sets c.args.words.now c.args.from) (sym (join_below_none _))

pub put-requires : goal.put-requires
put-requires c = omega (arith, ap length c.dimension_words-block.ensures ∙ dimension_length (dimensions_of c.args.dims c.loop-d.d))

pub loop-d-preserved : goal.loop-d-preserved
loop-d-preserved c =
    let a = c.args in
    let l = c.loop-d in
    let f : ℕ → List ℕ = λ i. dimension_words (dimensions_of a.dims i) in
    c.put.ensures ∙ ap₂ (λ x y. sets y (a.from + l.d * dimension_width) x) c.dimension_words-block.ensures l.invariant
    ∙ run_join f dimension_width (λ i. dimension_length (dimensions_of a.dims i)) a.from l.d a.words.now

pub returns : goal.returns
returns c =
    let a = c.args in
    let e : c.loop-d.d ≡ max_dims = omega arith in
    c.loop-d.invariant ∙ ap (λ n. sets a.words.now a.from (join_below (λ i. dimension_words (dimensions_of a.dims i)) n)) e
