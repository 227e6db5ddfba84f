use Rattle.std.proofs.Common.{refl, arith}
use Rattle.model.specs.Numbers.{power_up}
use Rattle.real_laws.proofs.Powers.{factor_more, factors_all}
use Rattle.powers.proofs.power.Goals as goal

pub loop-j-init : goal.loop-j-init
unfolding power_up
loop-j-init c = record { most = omega arith; product = refl }

pub loop-j-preserved : goal.loop-j-preserved
loop-j-preserved c = record { most = omega arith; product = factor_more c.args.y c.loop-j.p c.loop-j._j (omega arith) c.loop-j.invariant.product }

pub returns : goal.returns
returns c =
    let l = c.loop-j in
    factors_all c.args.y l.p l._j c.args.k (omega arith) l.invariant.most c.loop-j-test.false l.invariant.product
