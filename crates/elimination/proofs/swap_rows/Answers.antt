use Rattle.std.proofs.Common.{◌≡◌, refl, sym, ◌∙◌, ◌+◌, ◌*◌, ℕ, List, arith}
use Rattle.std.proofs.lemmas.List.Edits.{sets, swap_is}
use lib.Ieee.{Float, nan}
use Rattle.model.specs.Lists.{list_below}
use Rattle.model.specs.Hyperplane.{entry, swapped}
use Rattle.hyperplane_laws.proofs.Rows.{swap_more}
use Rattle.elimination.proofs.swap_rows.Goals as goal

swap_none : (a : List Float) (k p : ℕ) → a ≡ sets (sets a (k * 9) (list_below (entry a p) 0)) (p * 9) (list_below (entry a k) 0)
unfolding list_below
swap_none a k p = refl

pub loop-column-init : goal.loop-column-init
loop-column-init c = swap_none _ _ _

pub loop-column-preserved : goal.loop-column-preserved
loop-column-preserved c =
    let l = c.loop-column in
    let a = c.args in
    c.swap.ensures.after ∙ sym (swap_is l.a (a.k * 9 + l.column) (a.p * 9 + l.column) nan (omega arith) (omega arith))
    ∙ swap_more nan l.a a.a.now (a.k * 9) (a.p * 9) l.column (λ u. omega arith) (λ u. omega arith) l.invariant

pub returns : goal.returns
unfolding swapped
returns c = let e : c.loop-column.column ≡ c.args.m + 1 = omega arith in rw e at c.loop-column.invariant
