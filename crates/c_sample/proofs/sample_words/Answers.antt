-- `c_sample`.
use mathlib.Core.Path.{sym, ap, subst, ◌∙◌}
use Rattle.model.specs.Refusal.{number_of}
use borrow.Author.Rules.{rules}
use Rattle.model.specs.Session.{state}
use Rattle.model.specs.Property.{SessionOk}
use Rattle.export_laws.proofs.Sessions.{sample_short, sample_lacks, sample_refused, sample_set}
use Rattle.c_sample.proofs.sample_words.Goals as goal

pub returns-then-session-lt-SESSION_WORDS : goal.returns-then-session-lt-SESSION_WORDS
returns-then-session-lt-SESSION_WORDS c = sample_short _ _ _ _ _ _ _ _ _ _ _ c.if-session-lt-SESSION_WORDS.true (c.from.ensures ∙ ap number_of c.short_session.ensures)

pub returns-then-lacks_words : goal.returns-then-lacks_words
returns-then-lacks_words c =
    sample_lacks _ _ _ _ _ _ _ _ _ _ _ c.if-session-lt-SESSION_WORDS.false c.session_of_words-before.ensures (c.requires c.if-session-lt-SESSION_WORDS.false)
    (sym c.lacks_words.ensures ∙ c.if-lacks_words.true) _ c.from-then-lacks_words.ensures

pub returns-in-Err : goal.returns-in-Err
returns-in-Err c =
    sample_refused _ _ _ _ _ _ _ _ _ _ c.if-session-lt-SESSION_WORDS.false _ _ c.session_of_words-before.ensures c.dimension_of_words-distribution.ensures
    (sym c.lacks_words.ensures ∙ c.if-lacks_words.false)
    c.sample-sampled.result _ _ _ _ c.sample-sampled.ensures _ _ c.in-Err.is c.from-in-Err.ensures

pub returns-in-Ok : goal.returns-in-Ok
returns-in-Ok c =
    sample_set _ _ _ _ _ _ _ _ _ _ c.if-session-lt-SESSION_WORDS.false _ _ c.session_of_words-before.ensures c.dimension_of_words-distribution.ensures
    (sym c.lacks_words.ensures ∙ c.if-lacks_words.false)
    c.sample-sampled.result _ _ _ _ c.sample-sampled.ensures _ _ _ _ c.in-Ok.is c.kind_of.ensures c.word_of_setting.ensures.word c.word_of_setting.ensures.back
    c.words_of_session.ensures.laid c.words_of_session.ensures.back
