-- k is drawn, and its value worked out.
use Rattle.std.proofs.Common.{◌≡◌, ℤ, pos, Float, ap, ◌∙◌, rules}
use Rattle.model.specs.Draw.{drawn, draw_i64}
use Rattle.model.specs.Setting.{last_step, on_step, sample_float}
use Rattle.list_laws.proofs.Draws.{drawn-by}
use Rattle.settings.proofs.Signed.{back}
use Rattle.sampling.proofs.sample_on_step.Goals as goal

pub returns : goal.returns
unfolding sample_float
returns c =
    let d = c.draw_i64-k in
    let l = c.last_step-last in
    let a = c.args in
    let k = d.result.value in
    -- k is drawn from 0 to the greatest
    let from : drawn k d.result.rng.s ≡ draw_i64 (pos 0) (last_step a.low a.high a.step) a.rng.s =
    d.ensures ∙ ap (λ (z : ℤ). draw_i64 (pos 0) z a.rng.s) (back l.result l.type_inv ∙ l.ensures) in
    ap (λ (x : Float). drawn x d.result.rng.s) (c.on_step.ensures ∙ ap (on_step a.low a.high a.step) (back k (search rules)))
    ∙ drawn-by (on_step a.low a.high a.step) from
