-- Within the range the fraction is dropped; beyond it the cast is known (`Casts`).
use Rattle.std.proofs.Common.{sym, ap, rules}
use lib.Ieee.{of_bits, neg, to_signed}
use Rattle.list_laws.proofs.Bools.{true_T}
use Rattle.real_laws.proofs.Nan.{ne_nan, eq_not_nan}
use Rattle.real_laws.proofs.Casts.{above_range, below_range}
use Rattle.real.proofs.int_of_real.Statement.{statement}
use Rattle.real.proofs.int_of_real.Tie as tie

truncating-f64-to-i64-requires : tie.Need-truncating_f64_to_i64-requires
unfolding of_bits neg
truncating-f64-to-i64-requires c κs = (true_T _ c.if-x.true, true_T _ c.if-x-2.true)

returns : tie.Need-returns-then-x-2
returns c = search rules

returns-2 : tie.Need-returns-else-x-2
unfolding of_bits neg
returns-2 c = above_range c.args.x c.if-x.true c.if-x-2.false

returns-3 : tie.Need-returns-then-x-3
unfolding to_signed
returns-3 c = sym (ap (to_signed 63) (ne_nan c.args.x c.if-x-3.true))

returns-4 : tie.Need-returns-else-x-3
unfolding of_bits neg
returns-4 c = below_range c.args.x c.if-x.false (eq_not_nan c.args.x c.if-x-3.false)

pub int_of_real_spec : {M : Type 1} → statement M
int_of_real_spec =
    tie.close (tie.spec truncating-f64-to-i64-requires returns returns-2 returns-3 returns-4)
