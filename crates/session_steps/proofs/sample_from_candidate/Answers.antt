-- a plan's place tells whether it is new
use Prim.Native.Nat.{ℕ}
use mathlib.Core.List.{List, []}
use mathlib.Core.Path.{ap, ◌∙◌}
use Rattle.model.specs.Session.{State, state, answer}
use Rattle.model.specs.Calls.{settled}
use Rattle.session_steps.proofs.States.{is_new_lem, known_plan, new_plan, enlisted_ready}
use native.Mathlib.Omega.{arith}
use Rattle.session_steps.proofs.sample_from_candidate.Goals as goal
use Rattle.session_steps.proofs.sample_from_candidate.Goals.{Start}

abbrev given : Start → List ℕ → State
given s pool = state s.args.session s.args.candidates.now s.args.plans.now s.args.next_dims.now pool

pub returns-then-i-n : goal.returns-then-i-n
returns-then-i-n c pool =
    c.answer.ensures c.args.plans.now pool ∙ ap settled (known_plan (given (goal.at.returns-then-i-n c).Start pool) c.args.plan _ (omega arith) c.place_in-i.ensures c.if-i-n.true)

pub enlist-session-requires : goal.enlist-session-requires
enlist-session-requires c =
    let e = is_new_lem (given (goal.at.enlist-session-requires c).Start []) c.args.plan _ (omega arith) c.place_in-i.ensures c.if-i-n.false in
    (c.requires.0, c.requires.5 e, c.requires.2, c.requires.3, c.requires.4)

pub answer-requires-2 : goal.answer-requires-2
answer-requires-2 c =
    let e = is_new_lem (given (goal.at.answer-requires-2 c).Start []) c.args.plan _ (omega arith) c.place_in-i.ensures c.if-i-n.false in
    (enlisted_ready (given (goal.at.answer-requires-2 c).Start []) c.args.plan _ _ _ _ [] c.requires.0 (c.enlist-session.ensures []), c.requires.5 e, omega arith, omega arith)

pub returns : goal.returns
returns c pool =
    c.answer-2.ensures _ pool
    ∙ ap (λ (x : State). settled (answer x c.args.session.progress.n_plans)) (c.enlist-session.ensures pool)
    ∙ ap settled (new_plan (given (goal.at.returns c).Start pool) c.args.plan _ (omega arith) c.place_in-i.ensures c.if-i-n.false)
