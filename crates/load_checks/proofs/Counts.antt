-- The counts of a load, test by test.
use Prim.Native.Nat.{◌≤◌, ◌<◌}
use mathlib.Core.Path.{◌≡◌, sym, ◌∙◌}
use mathlib.Core.Bool.{true, false, and-false, ◌||◌}
use borrow.Author.Tests.{lt-leb, le-leb}
use lib.Dec.{ltb}
use Rattle.model.specs.Plan.{max_objectives, max_constraints}
use Rattle.model.specs.declared.Edition.TheVariants.{First}
use Rattle.model.specs.Refusal.{bad_size, bad_divisions, bad_count}
use Rattle.model.specs.Load.{Load, bad_counts}

module _ (l : Load) where
  pub too_few : l.objectives < 1 → true ≡ bad_counts l
  unfolding bad_counts
  too_few h = sym (rw (lt-leb 1 l.objectives h))

  pub too_many : max_objectives < l.objectives → true ≡ bad_counts l
  unfolding bad_counts
  too_many h = sym (rw (lt-leb l.objectives max_objectives h, and-false))

  module _ (some : 1 ≤ l.objectives) (few : l.objectives ≤ max_objectives) where
    past_1 : bad_counts l ≡ bad_size l.size || (bad_divisions l.objectives l.divisions || (bad_count First l.count || ltb max_constraints l.constraints))
    unfolding bad_counts
    past_1 = rw (le-leb 1 l.objectives some, le-leb l.objectives max_objectives few)

    pub of_size : bad_size l.size ≡ true → true ≡ bad_counts l
    of_size e = sym (past_1 ∙ rw e)

    module _ (good-size : bad_size l.size ≡ false) where
      past_2 : bad_counts l ≡ bad_divisions l.objectives l.divisions || (bad_count First l.count || ltb max_constraints l.constraints)
      past_2 = past_1 ∙ rw good-size

      pub of-divisions : bad_divisions l.objectives l.divisions ≡ true → true ≡ bad_counts l
      of-divisions e = sym (past_2 ∙ rw e)

      module _ (good-divisions : bad_divisions l.objectives l.divisions ≡ false) where
        past_3 : bad_counts l ≡ bad_count First l.count || ltb max_constraints l.constraints
        past_3 = past_2 ∙ rw good-divisions

        pub of-count : bad_count First l.count ≡ true → true ≡ bad_counts l
        of-count e = sym (past_3 ∙ rw e)

        pub of-constraints : bad_count First l.count ≡ false → ltb max_constraints l.constraints ≡ bad_counts l
        of-constraints e = sym (past_3 ∙ rw e)
