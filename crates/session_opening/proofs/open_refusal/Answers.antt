-- each test rules out what stands before it
use mathlib.Core.Path.{sym, ◌∙◌}
use Rattle.demand3_laws.proofs.Passed.{some-objectives}
use Rattle.session_opening.proofs.Opening.{refused_2, refused_3, refused_4, refused_5, refused_14, ready}
use Rattle.session_opening.proofs.open_refusal.Goals as goal

-- ---- the same from further on

-- ---- what the tests say

pub returns-then-bad_directions : goal.returns-then-bad_directions
returns-then-bad_directions c = refused_2 _ _ _ _ _ _ _ (sym c.bad_directions.ensures ∙ c.if-bad_directions.true)

pub returns-then-bad_size : goal.returns-then-bad_size
returns-then-bad_size c = refused_3 _ _ _ _ _ _ _ (sym c.bad_directions.ensures ∙ c.if-bad_directions.false) (sym ((c.bad_session_size-bad_size.ensures)) ∙ c.if-bad_size.true)

pub bad_session_divisions-requires : goal.bad_session_divisions-requires
bad_session_divisions-requires c = some-objectives _ (sym c.bad_directions.ensures ∙ c.if-bad_directions.false)

pub returns-then-bad_session_divisions : goal.returns-then-bad_session_divisions
returns-then-bad_session_divisions c =
    refused_4 _ _ _ _ _ _ _ (sym c.bad_directions.ensures ∙ c.if-bad_directions.false) ((sym ((c.bad_session_size-bad_size.ensures)) ∙ c.if-bad_size.false)) (sym c.bad_session_divisions.ensures ∙ c.if-bad_session_divisions.true)

pub returns-then-bad_operators : goal.returns-then-bad_operators
returns-then-bad_operators c =
    refused_5 _ _ _ _ _ _ _ (sym c.bad_directions.ensures ∙ c.if-bad_directions.false) ((sym ((c.bad_session_size-bad_size.ensures)) ∙ c.if-bad_size.false)) (sym c.bad_session_divisions.ensures ∙ c.if-bad_session_divisions.false) (sym (c.bad_operators-bad_operators.ensures) ∙ c.if-bad_operators.true)

pub returns-then-bad_window : goal.returns-then-bad_window
returns-then-bad_window c =
    refused_14 _ _ _ _ _ _ _ (sym c.bad_directions.ensures ∙ c.if-bad_directions.false) ((sym ((c.bad_session_size-bad_size.ensures)) ∙ c.if-bad_size.false)) (sym c.bad_session_divisions.ensures ∙ c.if-bad_session_divisions.false) (sym (c.bad_operators-bad_operators.ensures) ∙ c.if-bad_operators.false) (sym (c.bad_window-bad_window.ensures) ∙ c.if-bad_window.true)

pub returns : goal.returns
returns c =
    ready _ _ _ _ _ _ _ (sym c.bad_directions.ensures ∙ c.if-bad_directions.false) ((sym ((c.bad_session_size-bad_size.ensures)) ∙ c.if-bad_size.false)) (sym c.bad_session_divisions.ensures ∙ c.if-bad_session_divisions.false) (sym (c.bad_operators-bad_operators.ensures) ∙ c.if-bad_operators.false) (sym (c.bad_window-bad_window.ensures) ∙ c.if-bad_window.false)
