-- `write_load_words`: what the call leaves, coded
use Rattle.c_load.proofs.Coding.{load_coded}
use Rattle.c_load.proofs.write_load_words.Goals as goal

pub returns : goal.returns
returns c = load_coded _ _ _ _ _ _ c.write_load-answer.ensures c.value_or.ensures c.code.ensures
