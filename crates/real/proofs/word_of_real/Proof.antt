-- A NaN is told by differing from itself.
use Rattle.std.proofs.Common.{sym, ap, rules}
use lib.Ieee.{binary64, to_bits}
use Rattle.real_laws.proofs.Nan.{ne_nan, eq_not_nan}
use Rattle.real.proofs.word_of_real.Statement.{statement}
use Rattle.real.proofs.word_of_real.Tie as tie

float-to-bits-result : tie.Need-float_to_bits-result
float-to-bits-result c = eq_not_nan c.args.x c.if-x.false

returns : tie.Need-returns-then-x
unfolding to_bits
returns c = sym (ap (to_bits binary64) (ne_nan c.args.x c.if-x.true))

returns-2 : tie.Need-returns-else-x
returns-2 c = search rules

pub word_of_real_spec : {M : Type 1} → statement M
word_of_real_spec = tie.close (tie.spec float-to-bits-result returns returns-2)
