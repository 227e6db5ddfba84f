use Rattle.std.proofs.Common.{refl, ◌≤◌, arith}
use Rattle.model.specs.Numbers.{power_up}
use Rattle.real_laws.proofs.Powers.{factor_more, factors_all}
use Rattle.powers.proofs.power_four.Goals as goal

pub loop-j-init : goal.loop-j-init
unfolding power_up
loop-j-init c = record { most = omega arith; p = refl; q = refl; r = refl; s = refl }

pub loop-j-preserved : goal.loop-j-preserved
loop-j-preserved c =
    let l = c.loop-j in
    let a = c.args in
    let i = l.invariant in
    let one : 1 ≤ l._j = omega arith in
    record {
      most = omega arith;
      p = factor_more a.a l.p l._j one i.p;
      q = factor_more a.b l.q l._j one i.q;
      r = factor_more a.c l.r l._j one i.r;
      s = factor_more a.d l.s l._j one i.s;
    }

pub returns : goal.returns
returns c =
    let l = c.loop-j in
    let a = c.args in
    let i = l.invariant in
    let one : 1 ≤ l._j = omega arith in
    let e = c.loop-j-test.false in (
      factors_all a.a l.p l._j a.k one i.most e i.p,
      factors_all a.b l.q l._j a.k one i.most e i.q,
      factors_all a.c l.r l._j a.k one i.most e i.r,
      factors_all a.d l.s l._j a.k one i.most e i.s,
    )
