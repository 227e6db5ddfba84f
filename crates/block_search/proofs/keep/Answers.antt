-- where the squares tell, the lesser is the nearer one
use Rattle.std.proofs.Common.{sym, ◌∙◌}
use Rattle.block_search.proofs.Turns.{less-found}
use Rattle.block_search.proofs.keep.Goals as goal

pub returns-else-roots_tell : goal.returns-else-roots_tell
returns-else-roots_tell c =
    let none = sym c.roots_tell.ensures ∙ c.if-roots_tell.false in
    λ d f s. less-found _ d _ _ _ _ _ _ _ none c.keep_less.ensures f s
