-- after j factors the product is P(y, j)
use Rattle.std.proofs.Common.{◌≡◌, ◌≤◌, ◌-◌}
use Rattle.model.specs.Numbers.{P}
use Rattle.powers.proofs.power.Given as goal

abbrev pub invariant-loop-j : goal.invariant-loop-j
invariant-loop-j l = record { most : l._j - 1 ≤ l.k - 1; product : l.p ≡ P l.y l._j }
