-- Skipped, or crossed.
use Rattle.std.proofs.Common.{sym, ◌∙◌}
use Rattle.variation.proofs.Crossing.{cross_float-close, cross_float-apart}
use Rattle.variation.proofs.cross_float.Goals as goal

pub returns-then-close : goal.returns-then-close
returns-then-close c = let a = c.args in cross_float-close a.d a.p a.q a.k a.rng.s (sym c.close.ensures ∙ c.if-close.true)

pub returns : goal.returns
returns c =
    let a = c.args in
    let e = c.sbx_crossover_f64-c.ensures in
    cross_float-apart a.d a.p a.q a.k a.rng.s _ _ _ (sym c.close.ensures ∙ c.if-close.false) e.0 e.1 e.2
