-- low + k × step, with k × step reckoned without signs.
use Rattle.std.proofs.Common.{◌≡◌, ◌≤◌, ℕ, ℤ, pos, ◌+ℤ◌, ◌-ℤ◌, ◌≤ℤ◌, to_z, of_z, w64}
use lib.IntN.{nat_abs}
use mir.Val.{SFits}
use Rattle.settings.proofs.Signed.{held}
use Rattle.rng_util.specs.Span.{Spanned}
use Rattle.rng_util.proofs.Span as range
use Rattle.settings.proofs.Stepped as stepped
use Rattle.sampling.proofs.sample_stepped.Goals as goal

asked : {L H S : ℤ} → SFits w64 L → SFits w64 H → SFits w64 S → Spanned L H × (pos 1 ≤ℤ S) → stepped.Stepping L H S
asked l h s q = record { low_fits = l; high_fits = h; step_fits = s; bounds = q.0; above = q.1 }

-- what the machine reads back at each step
module _ (L H S : ℤ) (q : stepped.Stepping L H S) where
  el : to_z w64 (of_z w64 L) ≡ L
  el = held q.low_fits

  eh : to_z w64 (of_z w64 H) ≡ H
  eh = held q.high_fits

  es : to_z w64 (of_z w64 S) ≡ S
  es = held q.step_fits

  ed : to_z w64 (of_z w64 (H -ℤ L)) ≡ H -ℤ L
  ed = held (range.diff_fits L H q.low_fits q.high_fits q.bounds)

  module _ (w : ℕ) where
    below : stepped.rise L H S w ≤ nat_abs (H -ℤ L)
    below = stepped.rise_le L H S q w

    er : to_z w64 (stepped.rise L H S w) ≡ pos (stepped.rise L H S w)
    er = held (range.above-fits L H q.low_fits q.high_fits q.bounds (stepped.rise L H S w) below)

    ep : to_z w64 (of_z w64 (L +ℤ pos (stepped.rise L H S w))) ≡ L +ℤ pos (stepped.rise L H S w)
    ep = held (range.pick_fits L H q.low_fits q.high_fits q.bounds (stepped.rise L H S w) below)

pub overflow_mul-result : goal.overflow_mul-result
overflow_mul-result c =
    let q = asked c.ranges.low c.ranges.high c.ranges.step c.requires in
    rw (eh _ _ _ q, el _ _ _ q, ed _ _ _ q, es _ _ _ q) (stepped.rise-fits _ _ _ q c.next-word.result.value)

pub overflow_cast-result : goal.overflow_cast-result
overflow_cast-result c =
    let q = asked c.ranges.low c.ranges.high c.ranges.step c.requires in
    rw (eh _ _ _ q, el _ _ _ q, ed _ _ _ q, es _ _ _ q) (range.above-fits _ _ c.ranges.low c.ranges.high c.requires.0 _ (below _ _ _ q c.next-word.result.value))

pub overflow_add-result : goal.overflow_add-result
overflow_add-result c =
    let q = asked c.ranges.low c.ranges.high c.ranges.step c.requires in
    let w = c.next-word.result.value in
    rw (eh _ _ _ q, el _ _ _ q, ed _ _ _ q, es _ _ _ q, er _ _ _ q w) (range.pick_fits _ _ c.ranges.low c.ranges.high c.requires.0 _ (below _ _ _ q w))

pub returns : goal.returns
returns c =
    let q = asked c.ranges.low c.ranges.high c.ranges.step c.requires in
    let w = c.next-word.result.value in
    rw (eh _ _ _ q, el _ _ _ q, ed _ _ _ q, es _ _ _ q, er _ _ _ q w, ep _ _ _ q w)
    (stepped.stepped_is _ _ _ q c.args.rng.s w c.next-word.result.rng.s c.next-word.ensures)
