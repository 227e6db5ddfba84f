-- By whether the history is refused.
use Rattle.std.proofs.Common.{cond, sym, ap, ◌∙◌}
use Rattle.model.specs.declared.Refusal.TheVariants as why
use Rattle.c_sample.proofs.short_session.Goals as goal

pub returns-then-bad_history : goal.returns-then-bad_history
returns-then-bad_history c = sym (ap (λ b. cond b why.Count why.Room) (sym c.bad_history.ensures ∙ c.if-bad_history.true))

pub returns : goal.returns
returns c = sym (ap (λ b. cond b why.Count why.Room) (sym c.bad_history.ensures ∙ c.if-bad_history.false))
