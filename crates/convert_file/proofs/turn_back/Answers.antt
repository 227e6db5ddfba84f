-- by how far the reader gets, and then by what the first edition can hold
use Rattle.std.proofs.lemmas.Bool.{not-true, not-false}
use Rattle.convert_file.proofs.Wholes.{back_long, back_no_head, back-no_plans, back_runs_on, back-not_plain, back-inner, back-over, back-held}
use Rattle.convert_file.proofs.turn_back.Goals as goal
use Rattle.convert_file.proofs.turn_back.Goals.{then-not-plans-via-then-not-plans, then-not-plans-via-else-not-plans+then-head-eq-SECOND, then-not-plans-via-else-not-plans+else-head-eq-SECOND+then-to-gt-MAX_FILE}

pub returns-then-file-gt-MAX_FILE : goal.returns-then-file-gt-MAX_FILE
returns-then-file-gt-MAX_FILE c = back_long _ c.if-file-gt-MAX_FILE.true

pub returns-in_default : goal.returns-in_default
returns-in_default c = back_no_head c.args.file.now c.if-file-gt-MAX_FILE.false c.in_default.ensures

pub returns-in_default-plain_plans : goal.returns-in_default-plain_plans
returns-in_default-plain_plans c =
    back-no_plans c.args.file.now c.if-file-gt-MAX_FILE.false c.args.out.now _ _ _ c.in-Some.ensures c.in_default-plain_plans.ensures

pub returns-then-plans-file : goal.returns-then-plans-file
returns-then-plans-file c =
    back_runs_on c.args.file.now c.if-file-gt-MAX_FILE.false c.args.out.now _ _ _ c.in-Some.ensures _ _ _ c.in-Some-plain_plans.ensures c.if-plans-file.true

pub returns-then-not-plans : goal.returns-then-not-plans
returns-then-not-plans c =
    let short = c.if-file-gt-MAX_FILE.false in
    let head = c.in-Some.ensures in
    let plans = c.in-Some-plain_plans.ensures in
    let all = c.if-plans-file.false in
    elim c.then-not-plans.branch [
      | then-not-plans-via-then-not-plans w ↦ back-not_plain c.args.file.now short c.args.out.now _ _ _ head _ _ _ plans all (not-true _ w.if-not-plans.true)
      | then-not-plans-via-else-not-plans+then-head-eq-SECOND w ↦ back-inner c.args.file.now short c.args.out.now _ _ _ head _ _ _ plans all w.if-head-eq-SECOND.true
      | then-not-plans-via-else-not-plans+else-head-eq-SECOND+then-to-gt-MAX_FILE w ↦
          back-over c.args.file.now short c.args.out.now _ _ _ head _ _ _ plans all c.requires w.if-to-gt-MAX_FILE.true
    ]

pub returns : goal.returns
returns c =
    back-held c.args.file.now c.if-file-gt-MAX_FILE.false c.args.out.now _ _ _ c.in-Some.ensures _ _ _ c.in-Some-plain_plans.ensures c.if-plans-file.false
    c.requires (not-false _ c.if-not-plans.false) c.if-head-eq-SECOND.false c.if-to-gt-MAX_FILE.false
