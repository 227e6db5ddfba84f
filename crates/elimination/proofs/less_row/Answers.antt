use Rattle.std.proofs.Common.{◌≡◌, ap₂, ℕ, ◌+◌, ◌*◌, arith}
use lib.Ieee.{Float, nan}
use Rattle.model.specs.Real.{◌⊖◌, ◌⊗◌, ◌⊘◌}
use Rattle.model.specs.Hyperplane.{entry, less_row}
use Rattle.list_laws.proofs.Runs.{run_none, run_more}
use Rattle.hyperplane_laws.proofs.Rows.{run_else}
use Rattle.elimination.proofs.less_row.Goals as goal

pub loop-j-init : goal.loop-j-init
loop-j-init c = run_none _ _ _

pub loop-j-preserved : goal.loop-j-preserved
loop-j-preserved c =
    let l = c.loop-j in
    let a = c.args in
    let o = a.a.now in
    let f : ℕ → Float = λ j. entry o a.i j ⊖ ((entry o a.i a.k ⊘ entry o a.k a.k) ⊗ entry o a.k j) in
    let x = run_else f l.j (a.i * 9) (a.i * 9 + l.j) (λ u. omega arith) nan l.a o l.invariant in
    let y = run_else f l.j (a.i * 9) (a.k * 9 + l.j) (λ u. omega arith) nan l.a o l.invariant in
    run_more f _ _ _ _ _ l.invariant (ap₂ (λ s t. s ⊖ ((entry o a.i a.k ⊘ entry o a.k a.k) ⊗ t)) x y)

pub returns : goal.returns
unfolding less_row
returns c = let e : c.loop-j.j ≡ c.args.m + 1 = omega arith in rw e at c.loop-j.invariant
