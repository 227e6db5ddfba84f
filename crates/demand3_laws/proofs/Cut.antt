-- The lists of the whole fronts and of the split front are those of the paper's fronts.
use Rattle.model.specs.Association.{Request, dominance}
use Rattle.model.specs.Kept.{whole_fronts, before, split_front}
use Rattle.front_laws.proofs.Order.{listing-exactly, front-exactly}
use Rattle.demand3_laws.specs.Facts.{WholeListed, SplitListed}

pub before-exactly : (r : Request) → WholeListed r
unfolding before
before-exactly r = listing-exactly (dominance r) r.count (whole_fronts r)

pub split-exactly : (r : Request) → SplitListed r
unfolding split_front
split-exactly r = front-exactly (dominance r) r.count (whole_fronts r)
