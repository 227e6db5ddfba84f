-- The word of a value that its type has.
use Rattle.std.proofs.Common.{ap, ◌∙◌}
use Rattle.model.specs.Setting.{kind_of, of_word}
use Rattle.session_encoding.proofs.Typed.{setting-back}
use Rattle.session_encoding.proofs.word_of_setting.Goals as goal

pub returns-clause-back : goal.returns-clause-back
returns-clause-back c = ap (of_word (kind_of c.args.v)) c.to_word.ensures ∙ setting-back c.args.v _ c.well_formed.0
