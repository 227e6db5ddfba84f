-- each test of refusal 4 in turn
use Rattle.std.proofs.Common.{◌<◌, arith}
use mathlib.Core.Logic.{⊎_elim}
use borrow.Author.Tests.{lt-ltb}
use Rattle.reference_laws.proofs.Divisions.{bad-below, bad-above, bad-by-lines}
use Rattle.divisions.proofs.bad_divisions.Goals as goal
use Rattle.divisions.proofs.bad_divisions.Goals.{then-h-lt1, else-h-lt1}

pub returns-then-h-gt-MAX_DIVISIONS : goal.returns-then-h-gt-MAX_DIVISIONS
returns-then-h-gt-MAX_DIVISIONS c =
    let m = c.args.m in
    let h = c.args.h in
    elim c.if-h-lt1.branch [
      | then-h-lt1 w ↦ let few = lt-ltb h 1 w.if-h-lt1.true in let bad = bad-below m h w.if-h-lt1.true in cc
      | else-h-lt1 w ↦ let above : 199 < h = ⊎_elim (λ u. absurd (omega arith)) (λ u. u.1) c.if-h-gt-MAX_DIVISIONS.either in
          let many = lt-ltb 199 h above in let bad = bad-above m h above in cc
    ]

pub returns-else-h-gt-MAX_DIVISIONS : goal.returns-else-h-gt-MAX_DIVISIONS
returns-else-h-gt-MAX_DIVISIONS c =
    elim c.if-h-lt1.branch [
      | then-h-lt1 w ↦ absurd (omega arith)
      | else-h-lt1 w ↦ bad-by-lines _ _ _ w.if-h-lt1.false (omega arith) c.point_count.ensures
    ]
