-- The rules of `specs/RuleCases.antt` hold, by computation alone.
use mathlib.Core.Path.{refl}
use lib.Ieee.{add, sub, mul, div, lt, le, eq, of_bits, of_int, neg}
use Rattle.model.specs.Papers.Deb2002 as Deb
use Rattle.model.specs.Lists as Lists
use Rattle.model.specs.Real as Real
use Rattle.model.specs.Draw as Draw
use Rattle.model.specs.Numbers as Numbers
use Rattle.model.specs.Row as Row
use Rattle.model.specs.Front as Front
use Rattle.model.specs.Reference as Reference
use Rattle.model.specs.Association as Association
use Rattle.model.specs.Kept as Kept
use Rattle.model.specs.Cases as Cases
use Rattle.demand3_laws.specs.RuleCases.{one_line, one_plan, RuleCases}

pub rule_cases : RuleCases
unfolding add sub mul div lt le eq of_bits of_int neg Deb.undominated_of_rest Deb.in_first Lists.any_below Lists.all_below Lists.sum_below
    Lists.count_below Lists.best_from Lists.first_below Lists.keep_below Lists.list_below Lists.join_below Lists.all_in Lists.has Lists.keep
    Lists.tally Real.absolute Real.sum_to Draw.step Draw.xor_low Draw.word_of Draw.draw_word Draw.draw_usize Draw.in_turn Numbers.grown Numbers.root_in
    Numbers.whole_root Numbers.closer Numbers.near_root Numbers.rooted Numbers.sqrt_of Row.row_of Row.dominates Row.feasible
    Row.violation Row.constrained_dominates Row.row_beats Row.beats Front.lower Front.freed Front.lower_all Front.freed_all Front.first_round
    Front.next_round Front.round Front.front_of Front.front_list Reference.tuples Reference.das_dennis Reference.binomial Reference.point_count
    Association.feasible_only Association.shapes Association.shapers Association.ideal_of Association.old_intercept_of Association.intercept_of Association.normalised
    Association.coordinate Association.squares_of Association.distance Association.distance_to Association.association Kept.draw_from Kept.nearest Kept.draw_member
    Kept.pick_one Kept.count_at_pick Kept.pick_rules Kept.filled_rules Kept.whole_fronts Kept.before Kept.is_split Kept.split_front Kept.filled Kept.selected_split
    Kept.selected_whole Kept.selected Cases.plan_with Cases.request_with Cases.example one_line one_plan
rule_cases = record { nearest = refl; drawn = refl; padded = refl }
