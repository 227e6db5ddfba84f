-- The moved real as an Int.
use Rattle.std.proofs.Common.{ℤ, Float, ap, ◌∙◌, rules}
use Rattle.model.specs.declared.ParamValue.TheVariants as value
use Rattle.model.specs.Draw.{drawn}
use Rattle.model.specs.Setting.{to_int, polynomial_mutation}
use Rattle.list_laws.proofs.Draws.{drawn-by}
use Rattle.settings.proofs.Signed.{held, back}
use Rattle.variation.proofs.move_int.Goals as goal

pub returns : goal.returns
returns c =
    let a = c.args in
    let i = c.to_int in
    let y = c.polynomial_mutation_f64-y in
    let bl = back a.d.low (search rules) in
    let bh = back a.d.high (search rules) in
    let en = rw (held c.ranges.n) at c.real_of_int.ensures in
    let el = rw bl at c.real_of_int-2.ensures in
    let eh = rw bh at c.real_of_int-3.ensures in
    rw (back i.result i.type_inv)
    (ap (λ (z : ℤ). drawn (value.Int z) y.result.rng.s) (rw (bl, bh) at i.ensures)
    ∙ drawn-by (λ (z : Float). value.Int (to_int a.d.low a.d.high z)) (y.ensures ∙ (λ j. polynomial_mutation (en j) (el j) (eh j) a.k a.rng.s)))
