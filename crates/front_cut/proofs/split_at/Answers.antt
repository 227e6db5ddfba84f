use Rattle.std.proofs.Common.{true, false, ◌∙◌, sym}
use borrow.Author.Tests.{lt-ltb, le-ltb}
use Rattle.list_laws.proofs.Bools.{and_not}
use Rattle.front_cut.proofs.Fitting.{cut_by}
use Rattle.front_cut.proofs.split_at.Goals as goal
use Rattle.front_cut.proofs.split_at.Goals.{then-k-fronts, else-k-fronts}

pub returns-then-split : goal.returns-then-split
returns-then-split c =
    rw c.if-split.true (cut_by _ _ _ _ _ c.fronts_that_fit-k.ensures c.front_start-whole.ensures true (elim c.if-k-fronts.branch [
      | then-k-fronts w ↦ rw (lt-ltb _ _ w.if-k-fronts.true) (sym w.split-is ∙ c.if-split.true)
      | else-k-fronts w ↦ rw (le-ltb _ _ w.if-k-fronts.false) (sym (le-ltb _ _ w.if-k-fronts.false) ∙ sym w.split-is ∙ c.if-split.true)
    ]))

pub returns-else-split : goal.returns-else-split
returns-else-split c =
    rw c.if-split.false (cut_by _ _ _ _ _ c.fronts_that_fit-k.ensures c.front_start-whole.ensures false (elim c.if-k-fronts.branch [
      | then-k-fronts w ↦ rw (lt-ltb _ _ w.if-k-fronts.true) (sym w.split-is ∙ c.if-split.false)
      | else-k-fronts w ↦ and_not _ _ (le-ltb _ _ w.if-k-fronts.false)
    ]))
