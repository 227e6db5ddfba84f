-- The tables of `specs/Cases.antt` hold, by computation alone.
use mathlib.Core.Path.{refl}
use lib.Ieee.{add, sub, mul, div, lt, le, eq, of_bits, of_int, neg}
use Rattle.model.specs.Lists as Lists
use Rattle.model.specs.Hyperplane as H
use Rattle.hyperplane_laws.specs.Cases as Cases

-- both tables, in one computation
both : Cases.Planes × Cases.Fallbacks
unfolding add sub mul div lt le eq of_bits of_int neg Lists.any_below Lists.list_below Lists.best_from H.asf H.extreme H.plane_rows H.pivot_row H.swapped H.less_row
    H.cleared H.stepped H.eliminated H.less_known H.unknown H.solved H.same_before H.same_extremes H.zero_pivot H.unbounded_row H.unbounded_matrix H.unbounded_in H.unbounded
    H.low_intercept H.beyond_row H.beyond_bound H.plane_through H.plane_of H.falls_back H.intercepts_of Cases.plane_for Cases.intercepts_for Cases.axes
    Cases.swaps Cases.ties Cases.terms Cases.equal Cases.flat Cases.huge
both = (
  record {
    paper = refl;
    paper_in_any_order = refl;
    greatest_not_sum = refl;
    first_extreme = refl;
    swap_extremes = refl;
    swap_intercepts = refl;
    first_of_equal = refl;
    first_as_they_stand = refl;
    tie_intercepts = refl;
    left_to_right = refl;
  },
  record {
    same = refl;
    same_falls = refl;
    pivot = (refl, refl);
    pivot_falls = refl;
    number = (refl, refl, refl, refl);
    number_falls = refl;
    unknown = (refl, refl, refl, refl);
    unknown_falls = refl;
    intercept = (refl, refl, refl, refl);
    intercept_falls = refl;
    low = (refl, refl, refl);
    low_falls = refl;
    beyond = (refl, refl);
    beyond_falls = refl;
    bound_serves = refl;
  },
)

pub planes : Cases.Planes
planes = both.0

pub fallbacks : Cases.Fallbacks
fallbacks = both.1
