-- `choose_words`: what the call leaves, coded
use Rattle.export_laws.proofs.Export.{choose_coded}
use Rattle.c_select.proofs.choose_words.Goals as goal

pub returns : goal.returns
returns c = choose_coded _ _ _ _ _ _ c.choose-answer.ensures c.value_or.ensures c.code.ensures
