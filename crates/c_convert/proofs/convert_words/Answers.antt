-- `convert_words`: what the call leaves, coded
use Rattle.c_convert.proofs.Coding.{convert_coded}
use Rattle.c_convert.proofs.convert_words.Goals as goal

pub returns : goal.returns
returns c = convert_coded _ _ _ _ _ _ c.convert_into-answer.ensures c.value_or.ensures c.code.ensures
