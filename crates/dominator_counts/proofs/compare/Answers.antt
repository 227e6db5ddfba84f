use Rattle.std.proofs.Common.{refl}
use Rattle.front_laws.specs.Flat.{flat_beats}
use Rattle.front_laws.proofs.Domination.{alone}
use Rattle.dominator_counts.proofs.compare.Goals as goal

pub returns-in-true-true : goal.returns-in-true-true
unfolding flat_beats
returns-in-true-true c = rw (c.in-true-true.is-0, c.in-true-true.is-1) c.compare_rows.ensures

pub returns-in-true-false : goal.returns-in-true-false
unfolding flat_beats
returns-in-true-false c = rw (c.in-true-false.is-0, c.in-true-false.is-1) (refl, refl)

pub returns-in-false-true : goal.returns-in-false-true
unfolding flat_beats
returns-in-false-true c = rw (c.in-false-true.is-0, c.in-false-true.is-1) (refl, refl)

pub returns-in-false-false : goal.returns-in-false-false
unfolding flat_beats
returns-in-false-false c = rw (c.in-false-false.is-0, c.in-false-false.is-1) (rw (alone, alone) at c.winner_of.ensures)
