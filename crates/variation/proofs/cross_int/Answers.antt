-- Skipped, or crossed as reals.
use Rattle.std.proofs.Common.{◌≡◌, ℤ, sym, ap, ◌∙◌, w64, to_z, of_z, rules}
use mir.Val.{SFits}
use Rattle.model.specs.Setting.{draw_unit, spread, sbx_first, sbx_second}
use Rattle.settings.proofs.Signed.{held, back}
use Rattle.variation.proofs.Crossing.{cross_int-same, cross_int-apart, level, apart}
use Rattle.variation.proofs.cross_int.Goals as goal

-- the numbers are equal where their bits are
same : {p q : ℤ} → SFits w64 p → SFits w64 q → of_z w64 p ≡ of_z w64 q → p ≡ q
same f g e = sym (held f) ∙ ap (to_z w64) e ∙ held g

pub returns-then-p-q : goal.returns-then-p-q
returns-then-p-q c =
    let a = c.args in
    rw (held c.ranges.p, held c.ranges.q) (cross_int-same a.d a.p a.q a.k a.rng.s (level a.p a.q (same c.ranges.p c.ranges.q c.if-p-q.true)))

pub returns : goal.returns
returns c =
    let i1 = c.to_int in
    let i2 = c.to_int-2 in
    let x = c.sbx_crossover_f64-c in
    let a = c.args in
    let beta = spread (draw_unit a.rng.s).value a.k in
    let bl = back a.d.low (search rules) in
    let bh = back a.d.high (search rules) in
    let ea = rw (held c.ranges.p) at c.real_of_int.ensures in
    let eb = rw (held c.ranges.q) at c.real_of_int-2.ensures in
    let el = rw bl at c.real_of_int-3.ensures in
    let eh = rw bh at c.real_of_int-4.ensures in
    rw (back i1.result i1.type_inv, back i2.result i2.type_inv)
    (cross_int-apart a.d a.p a.q a.k a.rng.s i1.result i2.result x.result.first x.result.second x.result.rng.s
    (apart a.p a.q (λ e. c.if-p-q.false (ap (of_z w64) e)))
    (x.ensures.0 ∙ (λ i. sbx_first (el i) (eh i) beta (ea i) (eb i)))
    (x.ensures.1 ∙ (λ i. sbx_second (el i) (eh i) beta (ea i) (eb i)))
    (rw (bl, bh) at i1.ensures) (rw (bl, bh) at i2.ensures) x.ensures.2)
