-- a line is drawn, a member of it chosen, and the three arrays are moved on
use mathlib.Core.Path.{refl}
use Rattle.niching_array_laws.proofs.Picking.{ready_awaits, ready_open, open_some, member-waited, member-line, picked-at, found_at}
use Rattle.niching_array_laws.proofs.Numbering.{stands-more}
use native.Mathlib.Omega.{arith}
use Rattle.niching.proofs.pick.Goals as goal

pub choose_line-d-requires : goal.choose_line-d-requires
choose_line-d-requires c = let h = c.requires in (h.counted, h.awaited, h.few, ready_open h)

pub choose_member-m-requires : goal.choose_member-m-requires
choose_member-m-requires c =
    let h = c.requires in
    let l = c.choose_line-d in
    (h.listed, h.measured, ready_awaits h l.result.value, open_some c.args.waits.now c.args.n l.result.value l.ensures.0)

pub returns : goal.returns
returns c =
    let a = c.args in
    let l = c.choose_line-d in
    let m = c.choose_member-m in
    let h = c.requires in
    let waited = member-waited a.front.now a.lines.now a.taken.now l.result.value m.result.value m.ensures.0 in
    let on_line = member-line a.front.now a.lines.now a.taken.now l.result.value m.result.value m.ensures.0 in
    record {
      place = m.result.value;
      line = l.result.value;
      inside = m.ensures.0.below;
      waited = waited;
      plan = refl;
      on_line = on_line;
      line_inside = l.ensures.0.below;
      counted = refl;
      above = open_some a.waits.now a.n l.result.value l.ensures.0;
      lowered = refl;
      marked = refl;
      stands = λ picked s. stands-more s h.different m.ensures.0.below waited on_line
          (omega (arith, l.ensures.0.below, h.awaited)) (omega (arith, m.ensures.0.below, h.listed.marks));
      chosen = picked-at a.front.now a.lines.now a.distances.now a.n a.counts.now a.waits.now a.taken.now a.rng.s
          l.result.value l.result.rng.s _ _ l.ensures.1 m.ensures.1;
      found = found_at a.n a.counts.now a.waits.now a.rng.s l.result.value l.result.rng.s l.ensures.1;
    }
