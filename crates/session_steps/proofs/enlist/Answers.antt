-- the plan is entered, after a candidate more where there is none for it
use mathlib.Core.List.{[]}
use mathlib.Core.Path.{ap, ◌∙◌}
use Rattle.model.specs.Session.{State, enter}
use Rattle.session_steps.proofs.States.{enlist-next, enlist-over, overflowed_plans}
use native.Mathlib.Omega.{arith}
use Rattle.session_steps.proofs.enlist.Goals as goal

pub returns-then-i-k : goal.returns-then-i-k
returns-then-i-k c pool =
    c.enter.ensures c.args.candidates.now pool ∙ enlist-next _ _ c.if-i-k.true

pub enter-requires-2 : goal.enter-requires-2
enter-requires-2 c =
    let e = overflowed_plans _ _ _ _ _ [] (c.overflow-session.ensures c.args.plans.now c.args.next_dims.now []) in
    (omega (arith, c.requires.1), c.requires.3, c.requires.4)

pub returns : goal.returns
returns c pool =
    let a = c.args in
    c.enter-2.ensures c.overflow-session.new.candidates pool
    ∙ ap (λ (x : State). enter x a.plan) (c.overflow-session.ensures a.plans.now a.next_dims.now pool) ∙ enlist-over _ _ c.if-i-k.false
