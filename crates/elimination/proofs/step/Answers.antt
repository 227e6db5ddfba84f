use Rattle.std.proofs.Common.{ap, ◌∙◌, ◌+◌, ◌-◌, arith}
use Rattle.model.specs.Hyperplane.{swapped, cleared, stepped}
use Rattle.hyperplane_laws.proofs.Steps.{pivot-below}
use Rattle.elimination.proofs.step.Goals as goal

pub swap_rows-requires : goal.swap_rows-requires
swap_rows-requires c = (omega arith, omega arith, omega arith, omega (arith, c.pivot_row-p.ensures, pivot-below c.args.m c.args.a.now c.args.k c.requires.2))

pub returns : goal.returns
unfolding stepped
returns c =
    let a = c.args in
    let s = c.swap_rows.ensures ∙ ap (λ p. swapped a.m a.a.now a.k p) c.pivot_row-p.ensures in
    c.clear_column.ensures ∙ ap (λ t. cleared a.m t a.k (a.m - (a.k + 1))) s
