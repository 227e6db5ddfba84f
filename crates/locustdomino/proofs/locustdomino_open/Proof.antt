-- `locustdomino_open` promises what `open_words` does
use borrow.Author.Rules.{rules}
use Rattle.locustdomino.proofs.locustdomino_open.Statement.{statement}
use Rattle.locustdomino.proofs.locustdomino_open.Tie as tie

open-words-requires : tie.Need-open_words-requires
open-words-requires c κs = tt

same_length : tie.Need-shape_of-session
same_length c = search rules

returns : tie.Need-returns
returns c = c.open_words.ensures

pub locustdomino_open_spec : {M : Type 1} → statement M
locustdomino_open_spec = tie.close (tie.spec open-words-requires same_length returns)
