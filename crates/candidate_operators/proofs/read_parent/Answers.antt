use Rattle.std.proofs.Common.{◌≡◌, ℕ, ◌+◌, ◌*◌, ◌<◌, [], ◌∷◌, ◌++◌, length, get_or, sym, ap, ◌∙◌, ap₂, arith, length-set}
use Rattle.list_laws.proofs.Built.{list_below_none, list_below-more}
use Rattle.model.specs.Lists.{list_below}
use Rattle.model.specs.Setting.{of_word, dimensions_of, stored_at}
use Rattle.settings.specs.Candidate.{settings_of, parent_at}
use Rattle.settings.proofs.Candidates.{settings_none, settings-more}
use Rattle.candidate_operators.proofs.read_parent.Goals as goal

pub loop-j-init : goal.loop-j-init
loop-j-init c = record { size = ap length c.blank_candidate-params.ensures; so_far = settings_none _ ∙ sym (list_below_none _) }

pub loop-j-preserved : goal.loop-j-preserved
loop-j-preserved c =
    let l = c.loop-j in
    let a = c.args in
    let w = get_or a.parents.now (a.p * a.n + l.j) 0 in
    let room : l.j < length l.params = omega arith in record {
      size = simp length-set l.invariant.size;
      so_far = settings-more l.params l.j c.of_word.result room
          ∙ ap₂ (λ x y. x ++ (y ∷ [])) l.invariant.so_far (c.of_word.ensures ∙ ap (λ (k : ℕ). of_word k w) c.kind_of_dimension-kind.ensures)
          ∙ sym (list_below-more _ l.j);
    }

pub returns : goal.returns
unfolding parent_at
returns c =
    let l = c.loop-j in
    let a = c.args in
    let e : l.j ≡ a.n = omega arith in
    sym (ap (settings_of l.params) e) ∙ l.invariant.so_far ∙ ap (list_below (stored_at (dimensions_of a.dims) a.n a.parents.now a.p)) e
