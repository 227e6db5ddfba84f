use Rattle.std.proofs.Common.{arith, below_more}
use Rattle.list_laws.proofs.Bools.{T_false}
use Rattle.list_laws.proofs.Rows.{row_lt}
use Rattle.real_laws.proofs.Nan.{eq_not_nan}
use Rattle.replay_fronts.proofs.known.Goals as goal

pub loop-i-preserved : goal.loop-i-preserved
loop-i-preserved c = below_more _ _ c.loop-i.invariant (T_false _ (eq_not_nan _ c.if-x.false))

pub returns : goal.returns
returns c = λ e p h j g. c.loop-i.invariant _ (omega (arith, row_lt p j c.args.n c.args.m h g))
