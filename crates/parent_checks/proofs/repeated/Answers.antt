use Rattle.std.proofs.Common.{not, sym, ap, arith, below_more}
use Rattle.extraction.specs.Entries.{setting_at}
use Rattle.parent_checks.proofs.Naming.{others_no, others_yes}
use Rattle.parent_checks.proofs.repeated.Goals as goal

pub loop-t-init : goal.loop-t-init
loop-t-init c = λ k h l e. absurd (omega arith)

pub loop-t-preserved : goal.loop-t-preserved
loop-t-preserved c = below_more _ _ c.loop-t.invariant (λ h. c.if-x-pool.false)

pub returns-then-x-pool : goal.returns-then-x-pool
returns-then-x-pool c =
    let l = c.loop-t in
    let a = c.args in
    sym (ap not (others_no (setting_at a.pool.now a.at) a.count (setting_at a.pool.now a.at a.j) a.j l.t (omega arith) (omega arith) c.if-x-pool.true))

pub returns : goal.returns
returns c =
    let l = c.loop-t in
    let a = c.args in
    sym (ap not (others_yes (setting_at a.pool.now a.at) a.count (setting_at a.pool.now a.at a.j) a.j (λ t h. l.invariant t (omega arith))))
