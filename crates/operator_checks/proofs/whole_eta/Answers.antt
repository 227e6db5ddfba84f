-- Between 0 and 99 the cast to a whole number asks nothing more.
use Rattle.std.proofs.Common.{sym, ◌∙◌}
use Rattle.settings.proofs.Eta.{castable}
use Rattle.operator_checks.proofs.whole_eta.Goals as goal

pub truncating_f64_to_u64-requires : goal.truncating_f64_to_u64-requires
truncating_f64_to_u64-requires c =
    let h = castable _ (sym c.real_within.ensures ∙ c.if-real_within.true) in
    record { lower_bound = h.0; upper_bound = h.1 }
