-- the first `at` open places are filled, and the arrays hold what that leaves
use mathlib.Core.Path.{◌≡◌, ap, ◌∙◌}
use Rattle.model.specs.Kept.{mark_of}
use Rattle.niching_array_laws.proofs.Selecting.{selecting_first, selecting_ready, selecting_more, before-lines, front-counts, given, enough-members, no_counts, selecting_done}
use native.Mathlib.Omega.{arith}
use Rattle.niching.proofs.niching_select.Goals as goal

pub count_lines-requires : goal.count_lines-requires
count_lines-requires c = (before-lines c.requires, no_counts)

pub count_waiting-requires : goal.count_waiting-requires
count_waiting-requires c = (front-counts c.requires, no_counts)

pub loop-at-init : goal.loop-at-init
loop-at-init c =
    let b = c.count_lines in
    let f = c.count_waiting in
    selecting_first _ _ _ _ _ _ _ _ _ _ b.ensures f.ensures b.auto.counts f.auto.waits

pub pick-d-requires : goal.pick-d-requires
pick-d-requires c =
    let l = c.loop-at in
    let h = c.requires in
    selecting_ready l.invariant (given h) (enough-members h l.at c.loop-at-test.true)

pub loop-at-preserved : goal.loop-at-preserved
loop-at-preserved c =
    let h = c.requires in
    let u = c.loop-at-test.true in
    selecting_more c.loop-at.invariant (given h) (omega (arith, h.room)) (omega (arith, h.room_for_rules)) c.pick-d.ensures (c.mark.ensures ∙ ap mark_of c.rule_of-rule.ensures)

pub returns : goal.returns
returns c =
    let l = c.loop-at in
    let e : l.at ≡ c.args.open = omega arith in
    selecting_done _ e l.invariant
