-- after i turns the result is n over i
use Rattle.std.proofs.Common.{◌≡◌}
use Rattle.model.specs.Reference.{binomial}
use Rattle.divisions.proofs.n_combinations.Given as goal

abbrev pub invariant-loop-i : goal.invariant-loop-i
invariant-loop-i l = l.result ≡ binomial l.n l.i
