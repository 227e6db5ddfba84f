-- Which plans of a pool of words shape the scale, plan by plan, as marks (document 02, M-112).
use Rattle.std.specs.Prelude.{ℕ, ◌+◌, ◌-◌, Bool, true, false, cond, ◌&&◌, List, get_or}
use Rattle.model.specs.declared.Edition.{Edition}
use Rattle.model.specs.Edition.{passes_over}
use Rattle.model.specs.Lists.{all_below}
use Rattle.model.specs.Plan.{plan_at}
use Rattle.model.specs.Row.{feasible}

abbrev pub marked : List Bool → ℕ → Bool
marked marks p = get_or marks p false

-- plan p of a pool is feasible
abbrev pub feasible_in : List ℕ → ℕ → Bool
feasible_in pool p = feasible (plan_at pool p).constraints

-- every plan of the order from place `whole` up to place `end` passes a test
abbrev pub all_between : (ℕ → Bool) → List ℕ → ℕ → ℕ → Bool
all_between f order whole end = all_below (λ k. f (get_or order (whole + k) 0)) (end - whole)

-- feasible plans alone shape the scale: the edition passes over the others, and the split front is feasible
abbrev pub only_feasible : Edition → (ℕ → Bool) → List ℕ → ℕ → ℕ → Bool
only_feasible e f order whole end = passes_over e && all_between f order whole end

abbrev pub shapes_by : Bool → (ℕ → Bool) → ℕ → Bool
shapes_by only f p = cond only (f p) true
