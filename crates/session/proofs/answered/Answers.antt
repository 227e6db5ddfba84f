-- each way is as the definition has it
use mathlib.Core.Path.{◌≡◌, refl, sym, ap, ◌∙◌}
use mathlib.Core.Bool.{false, not}
use Rattle.model.specs.declared.Refusal.TheVariants as why
use Rattle.list_laws.proofs.Bools.{and_not, and_fails}
use Rattle.model.specs.declared.Phase.{Phase}
use Rattle.model.specs.Session.{State, state, past_discovery}
use Rattle.model.specs.Refusal.{bad_history}
use Rattle.session_laws.proofs.Request.{refused_7}
use Rattle.session_active.specs.Exits.{Called}
use Rattle.session_active.proofs.Ways.{leaves_refused, adds-by, long-by, without_slices}
use Rattle.session.proofs.answered.Goals as goal

pub returns-then-discovers : goal.returns-then-discovers
returns-then-discovers c =
    let before-here : State = state c.args.session c.args.candidates.now c.args.plans.now c.args.next_dims.now c.args.pool.now in
    let a = c.args in
    let st = before-here in
    c.sample_discovering.ensures a.candidates.now a.plans.now a.next_dims.now a.pool.now (long-by st _ c.long_enough-long.ensures)

pub returns-then-bad_history : goal.returns-then-bad_history
returns-then-bad_history c =
    let before-here : State = state c.args.session c.args.candidates.now c.args.plans.now c.args.next_dims.now c.args.pool.now in
    let a = c.args in
    let st = before-here in
    let o = adds-by st a.plan false (sym c.discovers.ensures ∙ c.if-discovers.false) in
    leaves_refused st a.distribution a.plan a.history.now why.Count a.session a.candidates.now a.pool.now _ c.refused.ensures refl
    (refused_7 st a.distribution a.plan a.history.now (and_not _ _ o, and_not _ _ o) (sym c.bad_history.ensures ∙ c.if-bad_history.true))

pub sample_first-requires : goal.sample_first-requires
sample_first-requires c =
    let before-here : State = state c.args.session c.args.candidates.now c.args.plans.now c.args.next_dims.now c.args.pool.now in
    let few-here : bad_history c.args.history.now ≡ false = sym c.bad_history.ensures ∙ c.if-bad_history.false in
    let called-here : Called before-here c.args.history.now = record { ok = c.requires; room = long-by before-here _ c.long_enough-long.ensures ∙ c.if-long.true; few = few-here } in
    let p = c.in-Discovery.is in
    (called-here, p, and_fails _ _ (sym c.discovers.ensures ∙ c.if-discovers.false) (ap (λ (x : Phase). not (past_discovery x)) p))

pub sample_active-requires : goal.sample_active-requires
sample_active-requires c =
    let before-here : State = state c.args.session c.args.candidates.now c.args.plans.now c.args.next_dims.now c.args.pool.now in
    let few-here : bad_history c.args.history.now ≡ false = sym c.bad_history.ensures ∙ c.if-bad_history.false in
    let called-here : Called before-here c.args.history.now = record { ok = c.requires; room = long-by before-here _ c.long_enough-long.ensures ∙ c.if-long.true; few = few-here } in
    (called-here, c.in-Active.is)

pub short_refusal-refusal-requires : goal.short_refusal-refusal-requires
short_refusal-refusal-requires c =
    let before-here : State = state c.args.session c.args.candidates.now c.args.plans.now c.args.next_dims.now c.args.pool.now in
    let few-here : bad_history c.args.history.now ≡ false = sym c.bad_history.ensures ∙ c.if-bad_history.false in
    (without_slices before-here c.requires, few-here)

pub returns : goal.returns
returns c =
    let before-here : State = state c.args.session c.args.candidates.now c.args.plans.now c.args.next_dims.now c.args.pool.now in
    let a = c.args in
    let st = before-here in
    leaves_refused st a.distribution a.plan a.history.now _ a.session a.candidates.now a.pool.now _ c.refused-2.ensures refl
    (c.short_refusal-refusal.ensures a.candidates.now a.next_dims.now a.distribution a.plan
    (adds-by st a.plan false (sym c.discovers.ensures ∙ c.if-discovers.false))
    (long-by st _ c.long_enough-long.ensures ∙ c.if-long.false))
