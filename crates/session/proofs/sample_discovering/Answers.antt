-- test by test
use mathlib.Core.Bool.{true, false}
use mathlib.Core.Path.{◌≡◌, refl, sym, ◌∙◌}
use mathlib.Core.List.{List}
use Prim.Native.Nat.{ℕ}
use Rattle.model.specs.declared.Refusal.TheVariants as why
use Rattle.list_laws.proofs.Bools.{and_no}
use Rattle.model.specs.declared.Distribution.{Distribution}
use Rattle.model.specs.declared.Session.{Session}
use Rattle.model.specs.Session.{state, discovers}
use Rattle.model.specs.Refusal.{bad_next, bad_next_step}
use Rattle.session_laws.proofs.Request.{Fit, fit_dimension, refused_6, refused_12, refused_7, refused_10, not-refused}
use Rattle.session_active.proofs.Ways.{leaves_refused, leaves_accepted, adds-by, adds_unbred, adds-accepted}
use native.Mathlib.Omega.{arith}
use Rattle.session.proofs.sample_discovering.Goals as goal

both_fit : (s : Session) (d : Distribution) (plan : ℕ) (cs ps ns pool : List ℕ) → bad_next s.progress.n_dims d ≡ false → bad_next_step d ≡ false → Fit (state s cs ps ns pool) d plan
both_fit s d plan cs ps ns pool fit step = (and_no (discovers (state s cs ps ns pool) plan) _ fit, and_no (discovers (state s cs ps ns pool) plan) _ step)

pub returns-then-bad_dimension : goal.returns-then-bad_dimension
returns-then-bad_dimension c cs ps ns pool l =
    let a = c.args in
    let st = state a.session cs ps ns pool in
    leaves_refused st _ _ _ why.Bounds a.session cs pool _ c.refused.ensures refl
    (refused_6 st _ _ _ (adds-by st _ true c.requires.0) (sym c.bad_dimension.ensures ∙ c.if-bad_dimension.true))

pub returns-then-bad_step : goal.returns-then-bad_step
returns-then-bad_step c cs ps ns pool l =
    let a = c.args in
    let st = state a.session cs ps ns pool in
    leaves_refused st _ _ _ why.Steps a.session cs pool _ c.refused-then-bad_step.ensures refl
    (refused_12 st _ _ _ (and_no (discovers st a.plan) _ (sym c.bad_dimension.ensures ∙ c.if-bad_dimension.false)) (adds-by st _ true c.requires.0) (sym c.bad_step.ensures ∙ c.if-bad_step.true))

pub returns-then-bad_history : goal.returns-then-bad_history
returns-then-bad_history c cs ps ns pool l =
    let a = c.args in
    let st = state a.session cs ps ns pool in
    leaves_refused st _ _ _ why.Count a.session cs pool _ c.refused-then-bad_history.ensures refl
    (refused_7 st _ _ _ (both_fit a.session a.distribution a.plan cs ps ns pool (sym c.bad_dimension.ensures ∙ c.if-bad_dimension.false) (sym c.bad_step.ensures ∙ c.if-bad_step.false)) (sym c.bad_history.ensures ∙ c.if-bad_history.true))

pub discover-requires : goal.discover-requires
discover-requires c =
    let fit-here : bad_next c.args.session.progress.n_dims c.args.distribution ≡ false = sym c.bad_dimension.ensures ∙ c.if-bad_dimension.false in
    let step_fit-here : bad_next_step c.args.distribution ≡ false = sym c.bad_step.ensures ∙ c.if-bad_step.false in
    fit_dimension _ _ fit-here step_fit-here

pub returns-then-long : goal.returns-then-long
returns-then-long c cs ps ns pool l =
    let a = c.args in
    let st = state a.session cs ps ns pool in
    leaves_accepted st _ _ _ _ _ (c.discover.ensures cs ps ns pool)
    (not-refused st _ _ _ (both_fit a.session a.distribution a.plan cs ps ns pool (sym c.bad_dimension.ensures ∙ c.if-bad_dimension.false) (sym c.bad_step.ensures ∙ c.if-bad_step.false)) (sym c.bad_history.ensures ∙ c.if-bad_history.false) (adds_unbred st _ a.plan c.requires.0)
    (l ∙ c.if-long.true) (λ new. omega (arith, c.requires.1)))
    (adds-accepted st _ _ _ (adds-by st _ true c.requires.0))

pub returns : goal.returns
returns c cs ps ns pool l =
    let a = c.args in
    let st = state a.session cs ps ns pool in
    leaves_refused st _ _ _ why.Room a.session cs pool _ c.refused-2.ensures refl
    (refused_10 st _ _ _ (both_fit a.session a.distribution a.plan cs ps ns pool (sym c.bad_dimension.ensures ∙ c.if-bad_dimension.false) (sym c.bad_step.ensures ∙ c.if-bad_step.false)) (sym c.bad_history.ensures ∙ c.if-bad_history.false) (adds_unbred st _ a.plan c.requires.0)
    (l ∙ c.if-long.false))
