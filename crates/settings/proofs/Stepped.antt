-- An Int drawn with a step: low + k × step stays within low..high, so nothing on the way leaves 64 bits.
use Rattle.std.specs.Prelude.{Some}
use mathlib.Core.Path.{◌≡◌, sym, ap, ◌∙◌}
use Prim.Native.Nat.{ℕ, ◌+◌, ◌*◌, ◌/◌, ◌%◌, ◌^◌, ◌<◌, ◌≤◌}
use native.Mathlib.Nat.{mod-lt, div-mul-le_self, div-le_self, mul-le-mul_right, le_trans, zero-add, add-zero}
use native.Mathlib.Omega.{arith}
use lib.Dec.{T}
use lib.IntN.{ℤ, pos, nat_abs, ◌+ℤ◌, ◌-ℤ◌, ◌*ℤ◌}
use lib.Signed.{non_neg, quot_z, ◌≤ℤ◌, pos-nat_abs}
use mir.Syntax.{w64}
use mir.Val.{SFits, Fits}
use Rattle.model.specs.Draw.{drawn, draw_word, draw_i64}
use Rattle.model.specs.Setting.{sample_int}
use Rattle.list_laws.proofs.Draws.{drawn-by}
use Rattle.rng_util.specs.Span.{Spanned}
use Rattle.rng_util.proofs.Shifted.{up, up_in, le_up, up_from}
use Rattle.rng_util.proofs.Span as range

-- what the definition draws, where high - low is `span` and the step `by`
value_is : (low : ℤ) (span by w : ℕ) → low +ℤ pos (w % (span / by + 1) * by) ≡ low +ℤ (pos 0 +ℤ pos (w % nat_abs (quot_z (pos span) (pos by) -ℤ pos 0 +ℤ pos 1))) *ℤ pos by
value_is low span by w =
    ap (λ (x : ℕ). low +ℤ pos (w % (x + 1) * by)) (sym (add-zero (span / by)))
    ∙ ap (λ (x : ℕ). low +ℤ pos (x * by)) (sym (zero-add (w % (span / by + 0 + 1))))

-- what is asked of the bounds and the step
pub record Stepping (low high step : ℤ) : Type 0 where
  pub low_fits : SFits w64 low
  pub high_fits : SFits w64 high
  pub step_fits : SFits w64 step
  pub bounds : Spanned low high
  pub above : pos 1 ≤ℤ step

-- how far above low the drawn value lies, for a word
abbrev pub rise : ℤ → ℤ → ℤ → ℕ → ℕ
rise low high step w = w % (nat_abs (high -ℤ low) / nat_abs step + 1) * nat_abs step

module _ (low high step : ℤ) (q : Stepping low high step) where
  abbrev span : ℕ
  span = nat_abs (high -ℤ low)

  span_below : span ≤ 2 ^ 54
  span_below = range.diff_abs_below low high q.low_fits q.high_fits q.bounds

  pub span_fits : Fits w64 span
  span_fits = record { fits = omega (arith, span_below) }

  pub step_non_neg : T (non_neg step)
  step_non_neg = (up_from step (omega (arith, le_up (pos 1) step q.above))).0

  abbrev by : ℕ
  by = nat_abs step

  by-up : by + 2 ^ 64 ≡ up step
  by-up = (up_from step (omega (arith, le_up (pos 1) step q.above))).1

  pub by-some : 0 < by
  by-some = omega (arith, by-up, le_up (pos 1) step q.above)

  pub by_fits : Fits w64 by
  by_fits = record { fits = omega (arith, by-up, up_in step q.step_fits) }

  pub count_fits : Fits w64 (span / by + 1)
  count_fits = record { fits = omega (arith, span_below, div-le_self span by) }

  module _ (w : ℕ) where
    abbrev up_by : ℕ
    up_by = rise low high step w

    -- no further than high does
    pub rise_le : up_by ≤ span
    rise_le =
        let k : w % (span / by + 1) ≤ span / by = omega (arith, mod-lt w {m = span / by + 1} (omega arith)) in
        le_trans (mul-le-mul_right by k) (div-mul-le_self span by)

    pub rise-fits : Fits w64 up_by
    rise-fits = record { fits = omega (arith, rise_le, span_below) }

  -- the definition's value
  pub stepped_is : (s w t : ℕ) → drawn w t ≡ draw_word s → drawn (low +ℤ pos (rise low high step w)) t ≡ sample_int low high (Some step) s
  unfolding sample_int draw_i64
  stepped_is s w t e =
      drawn-by (λ (v : ℕ). low +ℤ pos (rise low high step v)) e
      ∙ ap (λ (z : ℤ). drawn z (draw_word s).state) (
      value_is low span by (draw_word s).value
      ∙ ap (λ (y : ℤ). low +ℤ (pos 0 +ℤ pos ((draw_word s).value % nat_abs (quot_z y (pos by) -ℤ pos 0 +ℤ pos 1))) *ℤ pos by) (pos-nat_abs (high -ℤ low) (range.diff_non_neg low high q.low_fits q.high_fits q.bounds))
      ∙ ap (λ (y : ℤ). low +ℤ (pos 0 +ℤ pos ((draw_word s).value % nat_abs (quot_z (high -ℤ low) y -ℤ pos 0 +ℤ pos 1))) *ℤ y) (pos-nat_abs step step_non_neg)
      )
