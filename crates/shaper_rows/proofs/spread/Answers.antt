use Rattle.std.proofs.Common.{◌≡◌, sym, ap₂, cond, get_or, ℕ, Bool, List, Float, arith}
use Rattle.std.specs.Float.{nan}
use lib.Ieee.{div, of_bits}
use Rattle.model.specs.Real.{infinity}
use Rattle.model.specs.Kept.{without_line}
use Rattle.list_laws.proofs.Built.{over_none, over-set}
use Rattle.list_laws.proofs.Kept.{keep_below-room}
use Rattle.shapers.specs.Marked.{marked}
use Rattle.shaper_rows.specs.Gathered.{earlier, line_from, distance_from}
use Rattle.shaper_rows.proofs.Ranks.{earlier_none, earlier_more}
use Rattle.shaper_rows.proofs.spread.Goals as goal
use Rattle.shaper_rows.proofs.spread.Goals.{then-marks-p, else-marks-p}

-- what is written for plan p, by whether it is marked
line_at : (marks : List Bool) (from : List ℕ) (i p : ℕ) {b : Bool} → marked marks p ≡ b → i ≡ earlier marks p
    → cond b (get_or from i 0) without_line ≡ line_from marks from p
line_at marks from i p e k = ap₂ (λ b k. cond b (get_or from k 0) without_line) (sym e) k

distance_at : (marks : List Bool) (from : List Float) (i p : ℕ) {b : Bool} → marked marks p ≡ b → i ≡ earlier marks p
    → cond b (get_or from i nan) infinity ≡ distance_from marks from p
distance_at marks from i p e k = ap₂ (λ b k. cond b (get_or from k nan) infinity) (sym e) k

pub loop-p-init : goal.loop-p-init
loop-p-init c = record { count = earlier_none _; few = omega arith; line = sym (over_none _ _); distance = sym (over_none _ _) }

pub bounds-from_lines-i : goal.bounds-from_lines-i
bounds-from_lines-i c = omega (arith, keep_below-room (marked c.args.marks.now) c.args.n c.loop-p.p c.loop-p-test.true c.if-marks-p.true)

pub bounds-from_distances-i : goal.bounds-from_distances-i
bounds-from_distances-i c = omega (arith, keep_below-room (marked c.args.marks.now) c.args.n c.loop-p.p c.loop-p-test.true c.if-marks-p.true)

pub loop-p-preserved : goal.loop-p-preserved
unfolding div of_bits
loop-p-preserved c =
    let l = c.loop-p in
    let marks = c.args.marks.now in
    let lines = line_from marks c.args.from_lines.now in
    let distances = distance_from marks c.args.from_distances.now in
    elim c.if-marks-p.branch [
      | then-marks-p w ↦ rw (w.i-is, w.lines-is, w.distances-is) (record {
        count = omega (arith, earlier_more (marked marks) l.p w.if-marks-p.true);
        few = omega arith;
        line = over-set lines _ _ l.p _ (omega arith) l.invariant.line (line_at marks c.args.from_lines.now l.i l.p w.if-marks-p.true l.invariant.count);
        distance = over-set distances _ _ l.p _ (omega arith) l.invariant.distance
            (distance_at marks c.args.from_distances.now l.i l.p w.if-marks-p.true l.invariant.count);
      })
      | else-marks-p w ↦ rw (w.i-is, w.lines-is, w.distances-is) (record {
        count = omega (arith, earlier_more (marked marks) l.p w.if-marks-p.false);
        few = omega arith;
        line = over-set lines _ _ l.p _ (omega arith) l.invariant.line (line_at marks c.args.from_lines.now l.i l.p w.if-marks-p.false l.invariant.count);
        distance = over-set distances _ _ l.p _ (omega arith) l.invariant.distance
            (distance_at marks c.args.from_distances.now l.i l.p w.if-marks-p.false l.invariant.count);
      })
    ]
