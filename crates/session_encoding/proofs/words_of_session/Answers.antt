-- Four blocks, laid one after the other; what they are read back as is the law of Stored.
use mathlib.Core.Path.{ap, ◌∙◌}
use Rattle.session_words.specs.Coding.{session_of}
use Rattle.session_encoding.proofs.Laid.{session-laid}
use Rattle.session_encoding.proofs.Stored.{session-back}
use Rattle.session_encoding.proofs.Typed.{stored}
use Rattle.session_encoding.proofs.words_of_session.Goals as goal

pub returns : goal.returns
returns c =
    let a = c.args in
    let e =
    session-laid a.session a.words.now _ _ _ _ _ _ _ c.config_words-head.ensures c.put.ensures c.state_words-state.ensures c.put-2.ensures c.ideal_words-ideal.ensures c.put-3.ensures
    c.put_dimensions.ensures c.requires in
    record { laid = e; back = ap session_of e ∙ session-back a.session a.words.now (stored a.session _ c.well_formed.0) }
