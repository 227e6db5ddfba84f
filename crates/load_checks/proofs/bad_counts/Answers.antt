-- each test in turn
use Rattle.std.proofs.Common.{sym, ◌∙◌}
use Rattle.load_numbers.specs.Asking.{load_from}
use Rattle.load_checks.proofs.Counts.{too_few, too_many, of_size, of-divisions, of-count, of-constraints}
use Rattle.load_checks.proofs.bad_counts.Goals as goal
use Rattle.load_checks.proofs.bad_counts.Goals.{then-m-lt1-via-then-m-lt1, then-m-lt1-via-else-m-lt1+then-m-gt-MAX_OBJECTIVES, then-m-lt1-via-else-m-lt1+else-m-gt-MAX_OBJECTIVES+then-bad_size, then-m-lt1-via-else-m-lt1+else-m-gt-MAX_OBJECTIVES+else-bad_size+then-bad_divisions, then-m-lt1-via-else-m-lt1+else-m-gt-MAX_OBJECTIVES+else-bad_size+else-bad_divisions+then-bad_count}

pub returns-then-m-lt1 : goal.returns-then-m-lt1
returns-then-m-lt1 c =
    let l = load_from c.args.load in
    elim c.then-m-lt1.branch [
      | then-m-lt1-via-then-m-lt1 w ↦ too_few l w.if-m-lt1.true
      | then-m-lt1-via-else-m-lt1+then-m-gt-MAX_OBJECTIVES w ↦ too_many l w.if-m-gt-MAX_OBJECTIVES.true
      | then-m-lt1-via-else-m-lt1+else-m-gt-MAX_OBJECTIVES+then-bad_size w ↦
          of_size l w.if-m-lt1.false w.if-m-gt-MAX_OBJECTIVES.false (sym w.bad_size.ensures ∙ w.if-bad_size.true)
      | then-m-lt1-via-else-m-lt1+else-m-gt-MAX_OBJECTIVES+else-bad_size+then-bad_divisions w ↦
          of-divisions l w.if-m-lt1.false w.if-m-gt-MAX_OBJECTIVES.false (sym w.bad_size.ensures ∙ w.if-bad_size.false) (sym w.bad_divisions.ensures ∙ w.if-bad_divisions.true)
      | then-m-lt1-via-else-m-lt1+else-m-gt-MAX_OBJECTIVES+else-bad_size+else-bad_divisions+then-bad_count w ↦
          of-count l w.if-m-lt1.false w.if-m-gt-MAX_OBJECTIVES.false (sym w.bad_size.ensures ∙ w.if-bad_size.false) (sym w.bad_divisions.ensures ∙ w.if-bad_divisions.false)
          (sym w.bad_count.ensures ∙ w.if-bad_count.true)
    ]

pub returns : goal.returns
returns c =
    of-constraints (load_from c.args.load) c.if-m-lt1.false c.if-m-gt-MAX_OBJECTIVES.false (sym c.bad_size.ensures ∙ c.if-bad_size.false)
    (sym c.bad_divisions.ensures ∙ c.if-bad_divisions.false) (sym c.bad_count.ensures ∙ c.if-bad_count.false)
