-- Two plans compared both ways at once.
use Rattle.std.specs.Prelude.{◌≡◌, Bool, true, false}
use Rattle.dominator_counts.specs.declared.Winner.{Winner}
use Rattle.dominator_counts.specs.declared.Winner.TheVariants.{First, Second, Neither}

-- the winner is the first of two just where it dominates the second, and the other way round
abbrev pub Decides : Winner → Bool → Bool → Type 0
Decides First forth back = (forth ≡ true) × (back ≡ false)
Decides Second forth back = (forth ≡ false) × (back ≡ true)
Decides Neither forth back = (forth ≡ false) × (back ≡ false)
