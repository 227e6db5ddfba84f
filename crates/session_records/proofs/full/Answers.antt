use Rattle.std.proofs.Common.{sym}
use borrow.Author.Tests.{le-leb}
use Rattle.list_laws.proofs.Bools.{past}
use Rattle.model.specs.Session.{max_come}
use Rattle.session_records.proofs.Records.{is_new-by}
use Rattle.session_records.proofs.full.Goals as goal

pub returns-then-n-ge-MAX_COME : goal.returns-then-n-ge-MAX_COME
returns-then-n-ge-MAX_COME c =
    let a = c.args in
    sym (past (le-leb max_come _ c.if-n-ge-MAX_COME.true) (is_new-by a.plans.now a.n a.plan c.place_in.result c.requires c.place_in.ensures))
