-- `any` says whether one of the plans before b is close
use Rattle.std.proofs.Common.{◌≡◌}
use Rattle.model.specs.Lists.{any_below}
use Rattle.block_search.specs.Turn.{close_at}
use Rattle.block_search.proofs.any_close.Given as goal

abbrev pub invariant-loop-b : goal.invariant-loop-b
invariant-loop-b l = l.any ≡ any_below (close_at l.squares l.best) l.b
