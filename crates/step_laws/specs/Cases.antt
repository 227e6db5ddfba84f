-- Document 02, M-103, by computed examples.
use Rattle.std.specs.Prelude.{◌≡◌, true, false, [], ◌∷◌, ℕ, Float, Some}
use Rattle.std.specs.Float.{binary64}
use Rattle.std.specs.Float.Ieee.{of_bits}
use Rattle.model.specs.declared.Distribution.{Distribution}
use Rattle.model.specs.declared.Distribution.TheVariants as dist
use Rattle.model.specs.declared.Edition.TheVariants.{First, Second}
use Rattle.model.specs.declared.ParamValue.TheVariants as value
use Rattle.model.specs.Real.{◌⊕◌, ◌⊗◌, nought, unit, two}
use Rattle.model.specs.Edition.{moves_to_step}
use Rattle.model.specs.Setting.{last_step, on_step, move_float, moved_by, valid_step}

-- a valve of 0 to 2 turns "in eighths of a turn"
abbrev pub eighth : Float
eighth = of_bits binary64 0x3fc0_0000_0000_0000

abbrev pub valve : Distribution
valve = dist.Float (record { low = nought; high = two; log_scale = false; step = Some eighth })

abbrev pub stepped : Float → Float → Float → Distribution
stepped low high step = dist.Float (record { low = low; high = high; log_scale = false; step = Some step })

-- 2^52 - 1, 2^52 - 0.5, 2^52, 2^52 + 1 and 0.6875
abbrev pub low_end : Float
low_end = of_bits binary64 0x432f_ffff_ffff_fffe

abbrev pub below_middle : Float
below_middle = of_bits binary64 0x432f_ffff_ffff_ffff

abbrev pub middle : Float
middle = of_bits binary64 0x4330_0000_0000_0000

abbrev pub high_end : Float
high_end = of_bits binary64 0x4330_0000_0000_0001

abbrev pub close : Float
close = of_bits binary64 0x3fe6_0000_0000_0000

-- -0.1, 0.3, 0.4 and the double above 0.3
abbrev pub lowest : Float
lowest = of_bits binary64 0xbfb9_9999_9999_999a

abbrev pub highest : Float
highest = of_bits binary64 0x3fd3_3333_3333_3333

abbrev pub wide : Float
wide = of_bits binary64 0x3fd9_9999_9999_999a

abbrev pub past : Float
past = of_bits binary64 0x3fd3_3333_3333_3334

pub record StepCases : Type 0 where
  -- 0.3125 is two and a half eighths, and goes up to three; a floor would leave two
  pub rounded : move_float nought two (Some eighth) (of_bits binary64 0x3fd4_0000_0000_0000) ≡ of_bits binary64 0x3fd8_0000_0000_0000
  -- 0..1 by 0.375 has k to 2: 1 is nearest to the third step, which is past it, and goes to 0.75
  pub held_to_last : move_float nought unit (Some (of_bits binary64 0x3fd8_0000_0000_0000)) unit ≡ of_bits binary64 0x3fe8_0000_0000_0000
  -- edition 2 moves, and edition 1 leaves
  pub second : moved_by (moves_to_step Second) (λ (d : ℕ). valve) 1 ((value.Float (of_bits binary64 0x3fd4_0000_0000_0000) ∷ []) ∷ [])
      ≡ (value.Float (of_bits binary64 0x3fd8_0000_0000_0000) ∷ []) ∷ []
  pub first : moved_by (moves_to_step First) (λ (d : ℕ). valve) 1 ((value.Float (of_bits binary64 0x3fd4_0000_0000_0000) ∷ []) ∷ [])
      ≡ (value.Float (of_bits binary64 0x3fd4_0000_0000_0000) ∷ []) ∷ []
  -- "here also clamped": -0.1..0.3 by 0.4 has one step, whose value the Rust leaves above 0.3
  pub unclamped : lowest ⊕ (unit ⊗ wide) ≡ past
  pub clamped : move_float lowest highest (Some wide) highest ≡ highest
  -- 12: 2^53 steps pass, and one step less than the range's 2^53rd part does not; nor 0, a negative step, the infinity or a NaN
  pub most : valid_step (stepped nought (of_bits binary64 0x4340_0000_0000_0000) unit) ≡ true
  pub too_many : valid_step (stepped nought (of_bits binary64 0x4340_0000_0000_0000) (of_bits binary64 0x3fef_ffff_ffff_ffff)) ≡ false
  pub zero : valid_step (stepped nought unit nought) ≡ false
  pub negative : valid_step (stepped nought unit (of_bits binary64 0xbff0_0000_0000_0000)) ≡ false
  pub infinite : valid_step (stepped nought unit (of_bits binary64 0x7ff0_0000_0000_0000)) ≡ false
  pub nan : valid_step (stepped nought unit (of_bits binary64 0x7ff8_0000_0000_0000)) ≡ false
  pub wider : valid_step (stepped nought unit two) ≡ true
  -- moving twice: 2^52 - 1 .. 2^52 + 1 by 0.6875. From the upper end it is 2^52, whose own nearest step rounds to another double.
  pub once : move_float low_end high_end (Some close) high_end ≡ middle
  pub twice : move_float low_end high_end (Some close) middle ≡ below_middle
