use Rattle.std.proofs.Common.{sym, ◌∙◌, arith}
use Rattle.list_laws.proofs.Counts.{count_below_none, count_below_yes, count_below_no}
use Rattle.niching_array_laws.specs.Niche.{is_least}
use Rattle.niching_lines.proofs.count_least.Goals as goal
use Rattle.niching_lines.proofs.count_least.Goals.{then-is_least, else-is_least}

pub loop-l-init : goal.loop-l-init
loop-l-init c = record { few = omega arith; counted = sym (count_below_none _) }

pub loop-l-preserved : goal.loop-l-preserved
loop-l-preserved c =
    let l = c.loop-l in
    let f = is_least c.args.counts.now c.args.waits.now c.args.least in
    let d = sym c.is_least.ensures in
    elim c.if-is_least.branch [
      | then-is_least w ↦ record { few = omega arith; counted = omega (arith, count_below_yes f l.l (d ∙ w.if-is_least.true)) }
      | else-is_least w ↦ record { few = omega arith; counted = omega (arith, count_below_no f l.l (d ∙ w.if-is_least.false)) }
    ]
