-- `draw_one`: by the test.
use Rattle.load_draws.proofs.Drawing.{one-lowered, one_plain}
use Rattle.load_draws.proofs.draw_one.Statement.{statement}
use Rattle.load_draws.proofs.draw_one.Tie as tie

draw-f64-requires : tie.Need-draw_f64-d-requires
draw-f64-requires c κs = tt

returns : tie.Need-returns-then-lowered
returns c = let i = c in one-lowered _ _ _ _ i.draw_f64-d.ensures i.if-lowered.true

returns-2 : tie.Need-returns
returns-2 c = one_plain _ _ _ _ c.draw_f64-d.ensures c.if-lowered.false

pub draw_one_spec : {M : Type 1} → statement M
draw_one_spec = tie.close (tie.spec draw-f64-requires returns returns-2)
