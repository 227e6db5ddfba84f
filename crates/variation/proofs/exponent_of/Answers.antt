-- The cast asks nothing more of an eta that is accepted.
use Rattle.std.proofs.Common.{arith}
use Rattle.variation.proofs.Exponent.{eta_castable, small}
use Rattle.variation.proofs.exponent_of.Goals as goal

pub truncating_f64_to_u64-requires : goal.truncating_f64_to_u64-requires
truncating_f64_to_u64-requires c = let h = eta_castable c.args.eta c.requires in record { lower_bound = h.0; upper_bound = h.1 }

pub overflow_add-result : goal.overflow_add-result
overflow_add-result c = let h = small c.args.eta c.requires in let e = c.truncating_f64_to_u64.ensures in omega arith
