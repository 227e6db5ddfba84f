-- The draw of 0..1, stretched and moved.
use lib.Ieee.{Float}
use Rattle.model.specs.Real.{◌⊕◌, ◌⊖◌, ◌⊗◌}
use Rattle.model.specs.Draw.{f64_range}
use Rattle.list_laws.proofs.Draws.{drawn-by}
use Rattle.rng_util.proofs.f64_range.Statement.{statement}
use Rattle.rng_util.proofs.f64_range.Tie as tie

draw-f64-requires : tie.Need-draw_f64-d-requires
draw-f64-requires c κs = tt

returns : tie.Need-returns
unfolding f64_range
returns c = let a = c.args in drawn-by (λ (u : Float). a.low ⊕ (u ⊗ (a.high ⊖ a.low))) c.draw_f64-d.ensures

pub f64_range_spec : {M : Type 1} → statement M
f64_range_spec = tie.close (tie.spec draw-f64-requires returns)
