use Rattle.std.proofs.Common.{ap, ◌∙◌, not}
use Rattle.session_window.proofs.Least.{slid_without, slid_with}
use Rattle.session_window.proofs.slid.Goals as goal

pub returns-then-is_none : goal.returns-then-is_none
returns-then-is_none c = slid_without _ _ (c.is_none.ensures ∙ ap not c.if-is_none.true)

pub returns : goal.returns
returns c = slid_with c.args.session c.args.pool.now _ _ (c.is_none.ensures ∙ ap not c.if-is_none.false) c.memory_at.ensures c.put_start.ensures
