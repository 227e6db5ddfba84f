-- The part that comes next has room behind `at`; the deeper call writes it there.
use Rattle.std.proofs.Common.{ℕ, ◌+◌, ◌-◌, ◌<◌, ◌≤◌, ◌≡◌, refl, sym, ap, ◌∙◌, List, length, take, drop, length-append, length-drop, arith}
use borrow.Rule.Slice.PartMut.{mid_of, same_len_mid}
use lib.Ieee.{Float}
use lib.Seq.{length-take-le}
use Rattle.model.specs.Lists.{join_below, over}
use Rattle.reference_laws.specs.Rows.{rows_from}
use Rattle.list_laws.proofs.Built.{join_below-more, written_behind}
use Rattle.list_laws.proofs.Rows.{join_below-room}
use Rattle.reference_laws.proofs.Rows.{part, rows-some, rows_none, rows_none_length, stored}
use Rattle.das_dennis.proofs.+das_dennis_recursive.Goals as goal

more : (before : List Float) (left rest h i at : ℕ) (t₀ t : List Float) → (left ≡ 0 → ⊥) → i < rest + 1 → at ≡ length (join_below (part before left rest h) i) → length t ≡ length t₀
    → length (rows_from before left rest h) ≤ length t₀ → at + length (part before left rest h i) ≤ length t
more before left rest h i at t₀ t some lt place same room =
    let e = rows-some before left rest h some in
    omega (arith, place, same, room, ap length e, join_below-room (part before left rest h) i (rest + 1) lt)

pub put_row-requires : goal.put_row-requires
put_row-requires t c =
    let a = c.args in
    (omega arith, omega (arith, c.requires.divisions_in_bounds, rows_none_length a.current a.depth a.left a.remaining a.divisions (omega arith) c.if-left-eq0.true))

pub returns-then-left-eq0-clause-count : goal.returns-then-left-eq0-clause-count
returns-then-left-eq0-clause-count t c =
    let a = c.args in
    sym (rows_none_length a.current a.depth a.left a.remaining a.divisions (omega arith) c.if-left-eq0.true)

pub returns-then-left-eq0-clause-rows : goal.returns-then-left-eq0-clause-rows
returns-then-left-eq0-clause-rows t c =
    let a = c.args in
    let x = c.coordinate in
    let f = stored a.current a.depth a.divisions a.remaining x.result (omega arith) x.ensures
    ∙ sym (rows_none (take a.depth a.current) a.left a.remaining a.divisions c.if-left-eq0.true) in
    c.put_row.ensures ∙ ap (λ (l : List Float). over l a.table.now) f

pub loop-i-init : goal.loop-i-init
unfolding join_below
loop-i-init t c = record { most = omega arith; count = refl; same = refl; place = refl; body = refl }

pub das_dennis_recursive-at-requires : goal.das_dennis_recursive-at-requires
das_dennis_recursive-at-requires t c =
    let a = c.args in
    let l = c.loop-i in
    let m = more (take a.depth a.current) a.left a.remaining a.divisions l.i l.at a.table.now l.table c.if-left-eq0.false c.loop-i-test.true l.invariant.place l.invariant.same c.requires.divisions_in_bounds in
    let e = stored a.current a.depth a.divisions l.i c.coordinate-in-loop-i.result (omega arith) c.coordinate-in-loop-i.ensures in
    let w = length-take-le (length l.table - l.at) (drop l.at l.table) (omega (arith, length-drop l.at l.table)) in
    (omega arith, ((omega arith, omega arith, omega arith), rw (e, w) (omega arith)))

pub loop-i-preserved : goal.loop-i-preserved
loop-i-preserved t c =
    let a = c.args in
    let l = c.loop-i in
    let call = c.das_dennis_recursive-at in
    let F = part (take a.depth a.current) a.left a.remaining a.divisions in
    let m = more (take a.depth a.current) a.left a.remaining a.divisions l.i l.at a.table.now l.table c.if-left-eq0.false c.loop-i-test.true l.invariant.place l.invariant.same c.requires.divisions_in_bounds in
    let e = stored a.current a.depth a.divisions l.i c.coordinate-in-loop-i.result (omega arith) c.coordinate-in-loop-i.ensures in
    let g : call.result ≡ length (F l.i) = call.ensures.count ∙ ap (λ (p : List Float). length (rows_from p (a.left - 1) (a.remaining - l.i) a.divisions)) e in
    let lent = mid_of l.at (length l.table - l.at) l.table in
    let q = call.ensures.rows ∙ ap (λ (p : List Float). over (rows_from p (a.left - 1) (a.remaining - l.i) a.divisions) lent) e in
    record {
      most = omega arith;
      count = refl;
      same = same_len_mid l.at (length l.table - l.at) l.table call.new.table call.auto.table ∙ l.invariant.same;
      place = omega (arith, g, l.invariant.place, ap length (join_below-more F l.i), length-append (join_below F l.i) (F l.i));
      body = written_behind (join_below F l.i) (F l.i) l.table a.table.now call.new.table l.at (sym l.invariant.place) (omega arith) l.invariant.body q
          ∙ ap (λ (x : List Float). over x a.table.now) (sym (join_below-more F l.i));
    }

pub returns-clause-count : goal.returns-clause-count
returns-clause-count t c =
    let a = c.args in
    let l = c.loop-i in
    let F = part (take a.depth a.current) a.left a.remaining a.divisions in
    let e : l.i ≡ a.remaining + 1 = omega (arith, l.invariant.most, l.invariant.count) in
    l.invariant.place ∙ ap length (ap (join_below F) e ∙ sym (rows-some (take a.depth a.current) a.left a.remaining a.divisions c.if-left-eq0.false))

pub returns-clause-rows : goal.returns-clause-rows
returns-clause-rows t c =
    let a = c.args in
    let l = c.loop-i in
    let F = part (take a.depth a.current) a.left a.remaining a.divisions in
    let e : l.i ≡ a.remaining + 1 = omega (arith, l.invariant.most, l.invariant.count) in
    l.invariant.body ∙ ap (λ (x : List Float). over x a.table.now) (ap (join_below F) e ∙ sym (rows-some (take a.depth a.current) a.left a.remaining a.divisions c.if-left-eq0.false))
