use Rattle.std.proofs.Common.{ℕ, ◌*◌}
use lib.Ieee.{Float}
use Rattle.model.specs.Real.{◌⊗◌}
use Rattle.association_laws.specs.Flat.{from}
use Rattle.columns.proofs.Passes.{pass_none, pass-more}
use Rattle.columns.proofs.dots.Goals as goal

pub loop-q-init : goal.loop-q-init
loop-q-init c =
    let a = c.args in
    -- term j of plan b
    let f : ℕ → ℕ → Float = λ b j. from a.x.now (j * a.len) b ⊗ from a.table.now a.line_at j in
    pass_none f a.len a.sums.now c.requires.3

pub loop-j-preserved : goal.loop-j-preserved
loop-j-preserved c =
    let a = c.args in
    let l = c.loop-j in
    let f : ℕ → ℕ → Float = λ b j. from a.x.now (j * a.len) b ⊗ from a.table.now a.line_at j in
    pass-more f a.len l.j l.sums _ l.invariant c.add_products.ensures
