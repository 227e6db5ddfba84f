-- The table of `specs/Cases.antt` holds, by computation alone.
use mathlib.Core.Path.{refl}
use lib.Ieee.{add, sub, mul, div, lt, le, eq, of_bits, of_int, neg}
use Rattle.model.specs.Lists as Lists
use Rattle.model.specs.Real as Real
use Rattle.model.specs.Draw as Draw
use Rattle.model.specs.Numbers as Numbers
use Rattle.model.specs.Row as Row
use Rattle.model.specs.Front as Front
use Rattle.model.specs.Reference as Reference
use Rattle.model.specs.Hyperplane as Hyperplane
use Rattle.model.specs.Association as Association
use Rattle.model.specs.Kept as Kept
use Rattle.model.specs.Cases as Cases
use Rattle.hopeless_laws.specs.Cases.{burst_hose, broken_front, none_split, Shaping}

pub shaping : Shaping
unfolding add sub mul div lt le eq of_bits of_int neg Lists.any_below Lists.all_below Lists.sum_below Lists.count_below Lists.best_from Lists.first_below Lists.keep_below Lists.list_below
    Lists.join_below Lists.all_in Lists.has Lists.keep Lists.tally Real.sum_to Draw.step Draw.xor_low Draw.word_of Draw.draw_word Draw.draw_usize Draw.in_turn Numbers.grown Numbers.root_in
    Numbers.whole_root Numbers.closer Numbers.near_root Numbers.rooted Numbers.sqrt_of Row.row_of Row.dominates Row.feasible Row.violation Row.constrained_dominates Row.beats Front.lower
    Front.freed Front.lower_all Front.freed_all Front.first_round Front.next_round Front.round Front.front_of Front.front_list Reference.tuples Reference.das_dennis Reference.binomial
    Reference.point_count Association.feasible_only Association.shapes Association.shapers Association.ideal_of Association.old_intercept_of Association.plane_intercept_of
    Association.intercept_of Association.normalised Association.coordinate Association.squares_of Association.distance Association.distance_to Association.association Hyperplane.asf
    Hyperplane.extreme Hyperplane.plane_rows Hyperplane.pivot_row Hyperplane.swapped Hyperplane.less_row Hyperplane.cleared Hyperplane.stepped Hyperplane.eliminated
    Hyperplane.less_known Hyperplane.unknown Hyperplane.solved Hyperplane.plane_through Hyperplane.plane_of Hyperplane.same_before Hyperplane.same_extremes Hyperplane.zero_pivot
    Hyperplane.unbounded_row Hyperplane.unbounded_matrix Hyperplane.unbounded_in Hyperplane.unbounded Hyperplane.low_intercept Hyperplane.beyond_row Hyperplane.beyond_bound
    Hyperplane.falls_back Hyperplane.intercepts_of Kept.draw_from Kept.nearest Kept.draw_member Kept.pick_one Kept.whole_fronts Kept.before Kept.is_split Kept.split_front Kept.filled
    Kept.selected_split Kept.selected_whole Kept.selected Cases.plan_with Cases.request_with burst_hose broken_front none_split
shaping = record { first = refl; second = refl; first_lines = refl; second_lines = refl; broken = refl; unsplit = refl }
