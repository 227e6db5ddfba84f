-- What 24 turns down, and that two greatest numbers agree below both.
use Prim.Native.Nat.{ℕ}
use Rattle.limit_laws.proofs.Over.{dimensions_over, dimensions_within, next_over, next_within, session-over, settings_over, settings_within, pool_over, words-by_24, step-by_24, dimensions_agree, next_agree, plan_agrees, parent_agrees, step_agrees}
use Rattle.limit_laws.specs.Limit.{TwentyFour, LimitsAgree}

pub twenty-four : TwentyFour
twenty-four = record {
  dimensions_over = dimensions_over;
  dimensions_within = dimensions_within;
  next_over = next_over;
  next_within = next_within;
  session = session-over;
  settings_over = settings_over;
  settings_within = settings_within;
  pool_over = pool_over;
  words = words-by_24;
  step = step-by_24;
}

-- ---- two numbers

module _ (a b : ℕ) where
  pub limits_agree : LimitsAgree a b
  limits_agree = record {
    dimensions = dimensions_agree a b;
    next = next_agree a b;
    plan = plan_agrees a b;
    parent = parent_agrees a b;
    step = step_agrees a b;
  }
