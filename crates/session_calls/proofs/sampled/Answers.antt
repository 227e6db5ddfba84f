use Rattle.std.proofs.Common.{arith}
use Rattle.session_calls.proofs.Property.{same-session}
use Rattle.session_calls.proofs.sampled.Goals as goal

pub locustdomino_sample-code-requires : goal.locustdomino_sample-code-requires
locustdomino_sample-code-requires c = λ enough. same-session _ _ _ _ _ _ c.words_of_session.ensures.back c.requires.session_ok

pub returns : goal.returns
returns c = same-session _ _ _ _ _ _ c.session_of_words.ensures (c.locustdomino_sample-code.ensures.keeps (omega arith))
