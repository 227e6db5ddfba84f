use Rattle.std.proofs.Common.{◌<◌, length, arith}
use Rattle.front_laws.proofs.Counting.{counted-low, counted-more}
use Rattle.front_laws.proofs.Flat.{flat_beats_self}
use Rattle.dominator_counts.proofs.count_all.Goals as goal

pub count_earlier-requires : goal.count_earlier-requires
count_earlier-requires c = (
  c.requires.0,
  record { plan = c.loop-q-test.true; counted = omega arith; low = counted-low _ c.loop-q.q c.loop-q.counts c.loop-q.invariant },
)

pub loop-q-preserved : goal.loop-q-preserved
loop-q-preserved c =
    let r = c.count_earlier in
    let room : c.loop-q.q < length r.new.counts = omega (arith, r.auto.counts) in
    counted-more _ _ _ _ _ c.loop-q.invariant r.ensures (flat_beats_self _ _ _ _ _) room
