use Rattle.std.proofs.Common.{◌≡◌, sym, ◌∙◌, arith}
use lib.Ieee.{nan}
use Rattle.model.specs.Real.{◌⊗◌}
use Rattle.list_laws.proofs.Built.{over_none, over-set, over_below}
use Rattle.list_laws.proofs.Runs.{over-next}
use Rattle.association_laws.specs.Flat.{from}
use Rattle.columns.specs.Block.{plan_at}
use Rattle.columns.proofs.Passes.{four-more}
use Rattle.columns.proofs.four_products.Goals as goal

pub loop-b-init : goal.loop-b-init
loop-b-init c = sym (over_none _ _)

pub loop-b-preserved : goal.loop-b-preserved
loop-b-preserved c =
    let l = c.loop-b in
    let a = c.args in
    let s = four-more (λ i. plan_at a.x.now a.len l.b i ⊗ from a.table.now a.line_at i) a.j _ (over-next _ _ _ _ nan l.invariant ∙ c.requires.3.at l.b (omega arith)) in
    over-set _ _ _ _ _ (omega arith) l.invariant s

pub returns : goal.returns
returns c =
    let e : c.loop-b.b ≡ c.args.len = omega arith in
    record { at = λ b h. over_below _ _ _ _ b nan c.loop-b.invariant (omega arith) }
