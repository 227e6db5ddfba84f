-- `open_words`.
use Rattle.export_laws.proofs.Sessions.{open_refused, open_short, open_ready}
use Rattle.c_open.proofs.open_words.Goals as goal

pub returns-then-session-lt-SESSION_WORDS : goal.returns-then-session-lt-SESSION_WORDS
returns-then-session-lt-SESSION_WORDS c =
    open_short _ _ _ _ _ _ _ _ _ _ _ _ _ c.open-opened.result c.edition_of-edition.ensures c.optional-size.ensures c.optional-divisions.ensures
    c.optional-window.ensures c.open-opened.ensures _
    _ c.in-Ok.is c.if-session-lt-SESSION_WORDS.true c.from-then-session-lt-SESSION_WORDS.ensures

pub returns-in-Err : goal.returns-in-Err
returns-in-Err c =
    open_refused _ _ _ _ _ _ _ _ _ _ _ _ _ c.open-opened.result c.edition_of-edition.ensures c.optional-size.ensures c.optional-divisions.ensures
    c.optional-window.ensures c.open-opened.ensures _
    _ _ c.in-Err.is c.from.ensures

pub returns-else-session-lt-SESSION_WORDS : goal.returns-else-session-lt-SESSION_WORDS
returns-else-session-lt-SESSION_WORDS c =
    let w = c.words_of_session in
    open_ready _ _ _ _ _ _ _ _ _ _ _ _ _ c.open-opened.result c.edition_of-edition.ensures c.optional-size.ensures c.optional-divisions.ensures
    c.optional-window.ensures c.open-opened.ensures _
    _ c.in-Ok.is c.if-session-lt-SESSION_WORDS.false w.ensures.laid w.ensures.back
