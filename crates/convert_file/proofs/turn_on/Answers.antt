-- by how far the reader gets
use Rattle.convert_file.proofs.Wholes.{on-long, on_no_head, on-no_plans, on_runs_on, on-over, on-held}
use Rattle.convert_file.proofs.turn_on.Goals as goal

pub returns-then-file-gt-MAX_FILE : goal.returns-then-file-gt-MAX_FILE
returns-then-file-gt-MAX_FILE c = on-long _ c.if-file-gt-MAX_FILE.true

pub returns-in_default : goal.returns-in_default
returns-in_default c = on_no_head c.args.file.now c.if-file-gt-MAX_FILE.false c.in_default.ensures

pub returns-in_default-number_plans : goal.returns-in_default-number_plans
returns-in_default-number_plans c =
    on-no_plans c.args.file.now c.if-file-gt-MAX_FILE.false c.args.out.now _ _ c.put_word-to.ensures _ _ _ c.in-Some.ensures c.in_default-number_plans.ensures

pub returns-then-end-file : goal.returns-then-end-file
returns-then-end-file c =
    on_runs_on c.args.file.now c.if-file-gt-MAX_FILE.false c.args.out.now _ _ c.put_word-to.ensures _ _ _ c.in-Some.ensures
    _ _ _ c.in-Some-number_plans.ensures c.if-end-file.true

pub returns-then-to-gt-MAX_FILE : goal.returns-then-to-gt-MAX_FILE
returns-then-to-gt-MAX_FILE c =
    on-over c.args.file.now c.if-file-gt-MAX_FILE.false c.args.out.now _ _ c.put_word-to.ensures _ _ _ c.in-Some.ensures
    _ _ _ c.in-Some-number_plans.ensures c.if-end-file.false c.requires c.if-to-gt-MAX_FILE.true

pub returns : goal.returns
returns c =
    on-held c.args.file.now c.if-file-gt-MAX_FILE.false c.args.out.now _ _ c.put_word-to.ensures _ _ _ c.in-Some.ensures
    _ _ _ c.in-Some-number_plans.ensures c.if-end-file.false c.requires c.if-to-gt-MAX_FILE.false
