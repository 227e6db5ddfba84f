-- The state moves on by one step, and the word is that of the state reached.
use Rattle.rng_lent.proofs.Words.{is_drawn}
use Rattle.rng_lent.proofs.draw_word.Statement.{statement}
use Rattle.rng_lent.proofs.draw_word.Tie as tie

step-requires : tie.Need-step-after-requires
step-requires c κs = tt

word-of-requires : tie.Need-word_of-requires
word-of-requires c κs = tt

returns : tie.Need-returns
returns c = is_drawn _ _ _ c.step-after.ensures c.word_of.ensures

pub draw_word_spec : {M : Type 1} → statement M
draw_word_spec = tie.close (tie.spec step-requires word-of-requires returns)
