-- The two tests hold the gap from both sides.
use Rattle.std.proofs.Common.{◌≡◌, ◌&&◌, arith}
use lib.Ieee.{Float, of_bits, neg, lt}
use Rattle.model.specs.Real.{◌⊖◌, absolute}
use Rattle.model.specs.Setting.{small_gap}
use Rattle.real_variation.proofs.Gap.{both_sides}
use Rattle.real_variation.proofs.close.Goals as goal

sides : (x : Float) → lt (absolute x) small_gap ≡ (lt x small_gap && lt (neg small_gap) x)
unfolding of_bits neg
sides x = both_sides _ _ (omega arith) x

pub returns-then-gap : goal.returns-then-gap
returns-then-gap c = let x = c.args.p ⊖ c.args.q in rw (sides x, c.if-gap.true)

pub returns-else-gap : goal.returns-else-gap
returns-else-gap c = let x = c.args.p ⊖ c.args.q in rw (sides x, c.if-gap.false)
