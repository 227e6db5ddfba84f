-- The word: the code's `^` is the definition's exclusive or.
use Rattle.rng_lent.proofs.Words.{is_word}
use Rattle.rng_lent.proofs.word_of.Statement.{statement}
use Rattle.rng_lent.proofs.word_of.Tie as tie

returns : tie.Need-returns
returns c = is_word c.args.s c.ranges.s.fits

pub word_of_spec : {M : Type 1} → statement M
word_of_spec = tie.close (tie.spec returns)
