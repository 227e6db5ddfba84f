-- no setting from j + 1 to t has the number
use Rattle.std.proofs.Common.{◌≡◌, ℕ, ◌+◌, ◌<◌, ◌≤◌}
use Rattle.extraction.specs.Entries.{setting_at}
use Rattle.parent_checks.proofs.repeated.Given as goal

abbrev pub invariant-loop-t : goal.invariant-loop-t
invariant-loop-t l = (k : ℕ) → k < l.t → l.j + 1 ≤ k → (setting_at l.pool l.at l.j).param ≡ (setting_at l.pool l.at k).param → ⊥
