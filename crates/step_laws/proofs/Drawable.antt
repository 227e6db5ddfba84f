-- What is drawn on a step or moved to one is a value that could be drawn, and lies within its bounds.
use Rattle.std.specs.Prelude.{Option, Some}
use mathlib.Core.Path.{◌≡◌, refl, sym, ap, subst, ◌∙◌}
use mathlib.Core.Bool.{Bool, true}
use Prim.Native.Nat.{ℕ, suc, ◌+◌, ◌%◌, ◌≤◌}
use native.Mathlib.Nat.{mod-eq_of_lt, zero-add, add-zero}
use native.Mathlib.Omega.{arith}
use lib.Dec.{T, leb→le}
use lib.IntN.{ℤ, pos, negsuc, nat_abs, ◌+ℤ◌, ◌-ℤ◌}
use lib.Signed.{◌≤ℤ◌, le_z_yes}
use lib.Ieee.{Float}
use Rattle.list_laws.proofs.Bools.{T_true}
use Rattle.rng_util.proofs.Draws.{draw_i64-within}
use Rattle.model.specs.declared.Distribution.TheVariants as dist
use Rattle.model.specs.declared.FloatDistribution.{FloatDistribution}
use Rattle.model.specs.declared.ParamValue.TheVariants as value
use Rattle.model.specs.Draw.{draw_word, draw_i64}
use Rattle.model.specs.Setting.{valid_dimension, in_bounds, last_step, on_step, nearest_step, sample_float, sample_random, move_float, move_setting}
use Rattle.settings.proofs.InBounds.{Held, StepOk, float_step, sampled_in_bounds}
use Rattle.settings.proofs.OnStep.{FloatStep, last_is, last_spanned, last_fits}
use Rattle.step_laws.specs.Drawable.{Drawable, DrawableValue, OnSteps, AllOnSteps}
use Rattle.step_laws.proofs.Moved.{nearest-upto, stepped_in}

-- a whole number from 0 up
from_zero : (low high step x : Float) (k : ℤ) → pos 0 ≤ℤ k → k ≤ℤ last_step low high step → x ≡ on_step low high step k → Drawable low high step x
from_zero low high step x (pos k) h l e = record { k = k; upto = l; value = e }
from_zero low high step x (negsuc k) h l e = absurd h.le

module _ (low high step : Float) (q : FloatStep low high step) where
  drawn_so : (s : ℕ) → Drawable low high step (sample_float low high (Some step) s).value
  unfolding sample_float
  drawn_so s =
      let w = draw_i64-within (pos 0) (last_step low high step) s (record { sfits = omega arith }) (last_fits low high step q) (last_spanned low high step q) in
      from_zero low high step _ (draw_i64 (pos 0) (last_step low high step) s).value w.0 w.1 refl

  -- a word up to n, modulo n + 1, is itself
  word_so : (n w : ℕ) → w ≤ n → pos 0 +ℤ pos (w % nat_abs (pos n -ℤ pos 0 +ℤ pos 1)) ≡ pos w
  word_so n w h =
      let e : nat_abs (pos n -ℤ pos 0 +ℤ pos 1) ≡ n + 1 = ap (λ (x : ℕ). x + 1) (add-zero n) in
      ap pos (zero-add (w % nat_abs (pos n -ℤ pos 0 +ℤ pos 1)) ∙ ap (λ (m : ℕ). w % m) e ∙ mod-eq_of_lt (omega arith))

  each_so : (s : ℕ) → pos (draw_word s).value ≤ℤ last_step low high step
      → (sample_float low high (Some step) s).value ≡ on_step low high step (pos (draw_word s).value)
  unfolding sample_float draw_i64
  each_so s h =
      let n = last_is low high step q in
      let w = (draw_word s).value in
      let l : w ≤ n.0 = leb→le w n.0 (subst (λ (z : ℤ). pos w ≤ℤ z) n.2 h).le in
      ap (on_step low high step) (ap (λ (z : ℤ). pos 0 +ℤ pos (w % nat_abs (z -ℤ pos 0 +ℤ pos 1))) n.2 ∙ word_so n.0 w l)

  moved_so : (v : Float) → Drawable low high step (move_float low high (Some step) v)
  unfolding move_float
  moved_so v = let k = nearest-upto low high step v q in from_zero low high step _ (nearest_step low high step v) (le_z_yes k.0) (le_z_yes k.1) refl

-- THE THEOREM, for a dimension
on_steps : (low high step : Float) (log : Bool) → FloatStep low high step → Held (dist.Float (record { low = low; high = high; log_scale = log; step = Some step }))
    → valid_dimension (dist.Float (record { low = low; high = high; log_scale = log; step = Some step })) ≡ true
    → OnSteps (record { low = low; high = high; log_scale = log; step = Some step }) step
unfolding sample_random move_setting in_bounds
on_steps low high step log q h v = record {
  drawn = drawn_so low high step q;
  each = λ s l. ap value.Float (each_so low high step q s l);
  moved = moved_so low high step q;
  drawn_passes = λ s. sampled_in_bounds (dist.Float (record { low = low; high = high; log_scale = log; step = Some step })) s h v;
  moved_passes = λ x. T_true _ (stepped_in low high step x q);
}

with_step : (d : FloatDistribution) (o : Option Float) → d.step ≡ o → d ≡ record { low = d.low; high = d.high; log_scale = d.log_scale; step = o }
with_step d o e = ap (λ (x : Option Float). record { low = d.low; high = d.high; log_scale = d.log_scale; step = x }) e

pub all-on_steps : AllOnSteps
all-on_steps d step e h v =
    let f : FloatDistribution = record { low = d.low; high = d.high; log_scale = d.log_scale; step = Some step } in
    let g = with_step d (Some step) e in
    let held : Held (dist.Float f) = subst (λ (x : FloatDistribution). Held (dist.Float x)) g h in
    let valid : valid_dimension (dist.Float f) ≡ true = subst (λ (x : FloatDistribution). valid_dimension (dist.Float x) ≡ true) g v in
    subst (λ (x : FloatDistribution). OnSteps x step) (sym g) (on_steps d.low d.high step d.log_scale (float_step f held valid) held valid)
