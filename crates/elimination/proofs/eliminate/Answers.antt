use Rattle.std.proofs.Common.{ap, sym, ◌∙◌}
use Rattle.model.specs.Hyperplane.{stepped}
use Rattle.hyperplane_laws.proofs.Steps.{eliminated_none, eliminated-more}
use Rattle.elimination.proofs.eliminate.Goals as goal

pub loop-k-init : goal.loop-k-init
loop-k-init c = sym (eliminated_none _ _)

pub loop-k-preserved : goal.loop-k-preserved
loop-k-preserved c = c.step.ensures ∙ ap (λ t. stepped c.args.m t c.loop-k.k) c.loop-k.invariant ∙ sym (eliminated-more _ _ _)
