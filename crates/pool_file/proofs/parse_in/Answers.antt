-- header, marks, plans and end, each where the one before it leaves off
use Rattle.std.proofs.Common.{arith, Some, None}
use Rattle.pool_file.proofs.Whole.{Begun, parse-long, parse-headed, parse_no_marks, parse-marked, parse-no_plans, parse_runs_on, parse-good}
use Rattle.pool_file.proofs.parse_in.Goals as goal

pub returns-then-file-gt-MAX_FILE : goal.returns-then-file-gt-MAX_FILE
returns-then-file-gt-MAX_FILE c = parse-long c.args.second _ (omega arith)

pub returns-in_err-heading : goal.returns-in_err-heading
returns-in_err-heading c =
    rw c.from_residual.ensures (parse-headed _ _ _ c.if-file-gt-MAX_FILE.false c.begins.ensures None c.in_err-heading.ensures)

pub returns-in_err-marked : goal.returns-in_err-marked
returns-in_err-marked c =
    let h = c.in_ok-heading.heading in
    let b : Begun c.args.second c.args.file.now h.header h.next = parse-headed _ _ _ c.if-file-gt-MAX_FILE.false c.begins.ensures (Some h) c.in_ok-heading.ensures in
    rw c.from_residual-in_err-marked.ensures (parse_no_marks _ _ _ _ b c.in_err-marked.ensures)

pub returns-in_err-end : goal.returns-in_err-end
returns-in_err-end c =
    let h = c.in_ok-heading.heading in
    let b : Begun c.args.second c.args.file.now h.header h.next = parse-headed _ _ _ c.if-file-gt-MAX_FILE.false c.begins.ensures (Some h) c.in_ok-heading.ensures in
    let m = parse-marked _ _ _ _ b _ _ _ c.in_ok-marked.ensures in
    rw c.from_residual-in_err-end.ensures (parse-no_plans _ _ _ _ _ _ m c.in_err-end.ensures)

pub returns-then-end-file : goal.returns-then-end-file
returns-then-end-file c =
    let h = c.in_ok-heading.heading in
    let b : Begun c.args.second c.args.file.now h.header h.next = parse-headed _ _ _ c.if-file-gt-MAX_FILE.false c.begins.ensures (Some h) c.in_ok-heading.ensures in
    let m = parse-marked _ _ _ _ b _ _ _ c.in_ok-marked.ensures in
    parse_runs_on _ _ _ _ _ _ m _ _ c.in_ok-end.ensures c.if-end-file.true

pub returns : goal.returns
returns c =
    let h = c.in_ok-heading.heading in
    let b : Begun c.args.second c.args.file.now h.header h.next = parse-headed _ _ _ c.if-file-gt-MAX_FILE.false c.begins.ensures (Some h) c.in_ok-heading.ensures in
    let m = parse-marked _ _ _ _ b _ _ _ c.in_ok-marked.ensures in
    parse-good _ _ _ _ _ _ m _ _ c.in_ok-end.ensures c.requires.0 c.if-end-file.false
