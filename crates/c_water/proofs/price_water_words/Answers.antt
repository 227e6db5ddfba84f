-- `price_water_words`: what the call leaves, coded
use Rattle.c_water.proofs.Prices.{price_coded}
use Rattle.c_water.proofs.price_water_words.Goals as goal

pub returns : goal.returns
returns c = price_coded _ _ _ _ _ _ _ _ _ c.price_water-answer.ensures c.value_or.ensures c.code.ensures
