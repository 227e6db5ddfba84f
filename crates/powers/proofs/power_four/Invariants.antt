-- after j factors each product is P of j
use Rattle.std.proofs.Common.{◌≡◌, ◌≤◌, ◌-◌}
use Rattle.model.specs.Numbers.{P}
use Rattle.powers.proofs.power_four.Given as goal

abbrev pub invariant-loop-j : goal.invariant-loop-j
invariant-loop-j l = record { most : l._j - 1 ≤ l.k - 1; p : l.p ≡ P l.a l._j; q : l.q ≡ P l.b l._j; r : l.r ≡ P l.c l._j; s : l.s ≡ P l.d l._j }
