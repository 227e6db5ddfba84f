-- Rounded, cast and clamped.
use Rattle.std.proofs.Common.{ℤ, ap, ◌∙◌}
use lib.Ieee.{to_signed}
use Rattle.model.specs.Setting.{clamp_int}
use Rattle.settings.proofs.Signed.{held, back}
use Rattle.variation.proofs.to_int.Goals as goal

pub returns : goal.returns
returns c =
    let i = c.int_of_real in
    back c.clamp_int.result c.clamp_int.type_inv
    ∙ (rw (held c.ranges.low, held c.ranges.high, back i.result i.type_inv) at c.clamp_int.ensures)
    ∙ ap (λ (n : ℤ). clamp_int c.args.low c.args.high n) (i.ensures ∙ ap (to_signed 63) c.round.ensures)
