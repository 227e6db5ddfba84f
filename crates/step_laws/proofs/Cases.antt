-- The table of `specs/Cases.antt` holds, by computation alone.
use mathlib.Core.Path.{refl}
use lib.Ieee.{add, sub, mul, div, lt, le, eq, of_bits, of_int, neg, to_signed}
use Rattle.model.specs.Lists.{list_below}
use Rattle.model.specs.Numbers.{round_of}
use Rattle.model.specs.Setting.{move_float, move_setting, move_child, valid_float_step, valid_step}
use Rattle.step_laws.specs.Cases.{StepCases}

pub step_cases : StepCases
unfolding add sub mul div lt le eq of_bits of_int neg to_signed list_below round_of move_float move_setting move_child valid_float_step valid_step
step_cases = record {
  rounded = refl;
  held_to_last = refl;
  second = refl;
  first = refl;
  unclamped = refl;
  clamped = refl;
  most = refl;
  too_many = refl;
  zero = refl;
  negative = refl;
  infinite = refl;
  nan = refl;
  wider = refl;
  once = refl;
  twice = refl;
}
