use Rattle.std.proofs.Common.{ap₂, sym, ◌∙◌, ◌||◌}
use Rattle.list_laws.proofs.Tests.{any_below_none, any_below-more}
use Rattle.block_search.proofs.any_close.Goals as goal

pub loop-b-init : goal.loop-b-init
loop-b-init c = sym (any_below_none _)

pub loop-b-preserved : goal.loop-b-preserved
loop-b-preserved c = ap₂ (λ x y. x || y) c.loop-b.invariant c.is_close-any.ensures ∙ sym (any_below-more _ _)
