-- each setting before place j differs in number from those after it
use Rattle.std.proofs.Common.{◌≡◌, ℕ, ◌+◌, ◌<◌, true, drop}
use Rattle.model.specs.Lists.{list_below}
use Rattle.model.specs.Refusal.{others_differ}
use Rattle.extraction.specs.Entries.{setting_at}
use Rattle.parent_checks.proofs.named_once.Given as goal

abbrev pub invariant-loop-j : goal.invariant-loop-j
invariant-loop-j l = (k : ℕ) → k < l.j → others_differ (setting_at l.pool l.at k) (drop (k + 1) (list_below (setting_at l.pool l.at) l.count)) ≡ true
