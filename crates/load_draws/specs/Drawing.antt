-- What is drawn for a trial load and written at once, in model's words.
use Rattle.std.specs.Prelude.{ℕ, ◌≡◌, Bool, true, false, Float}
use mathlib.Core.List.{List, map, flatten, [], ◌∷◌}
use Rattle.model.specs.Real.{bits}
use Rattle.model.specs.Draw.{Drawn, draw_f64, draw_all}
use Rattle.model.specs.Plan.{Plan}
use Rattle.model.specs.PoolFile.{written_all, row_numbers}
use Rattle.model.specs.Load.{draw_constraint, draw_plan, rows_of}
use Rattle.pool_form.specs.Form.{Adds}

-- a value, or a constraint
abbrev pub draw_one : Bool → ℕ → Drawn Float
draw_one false = draw_f64
draw_one true = draw_constraint

abbrev pub draw_some : Bool → ℕ → ℕ → Drawn (List Float)
draw_some lowered n s = draw_all (λ j values. draw_one lowered) n s

abbrev pub draw_many : ℕ → ℕ → ℕ → ℕ → Drawn (List Plan)
draw_many m c n s = draw_all (λ p plans. draw_plan m c) n s

-- the numbers that stand for a real, a plan and plans
abbrev pub real_numbers : Float → List ℕ
real_numbers x = bits x ∷ []

abbrev pub plan_numbers : Plan → List ℕ
plan_numbers p = row_numbers (rows_of p)

abbrev pub plans_numbers : List Plan → List ℕ
plans_numbers l = flatten (map row_numbers (map rows_of l))

-- THE PROMISE of what draws: the numbers of what is drawn follow the text so far, up to r, and the generator is at t, where the draw leaves it
pub record Draws {A : Type 0} (numbers : A → List ℕ) (d : Drawn A) (before : List ℕ) (at : ℕ) (after : List ℕ) (r t : ℕ) : Type 0 where
  pub puts : Adds (written_all (numbers d.value)) before at after r
  pub state : t ≡ d.state
