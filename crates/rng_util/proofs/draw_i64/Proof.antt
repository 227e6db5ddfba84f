-- a and the word's remainder by how many numbers there are from a to b: nothing on the way leaves 64 bits.
use mathlib.Core.Path.{◌≡◌}
use lib.IntN.{ℤ, pos, nat_abs, ◌+ℤ◌, ◌-ℤ◌}
use mir.Syntax.{w64}
use mir.Val.{SFits, to_z, of_z}
use mir.ValLaws.{to_z-of_z}
use Prim.Native.Nat.{ℕ, ◌%◌}
use Rattle.model.specs.Draw.{draw_i64}
use Rattle.list_laws.proofs.Draws.{drawn-by}
use Rattle.rng_util.proofs.Span as span
use Rattle.rng_util.proofs.draw_i64.Statement.{statement}
use Rattle.rng_util.proofs.draw_i64.Tie as tie

-- what the machine reads back at each step
module _ (c : tie.Start) where
  abbrev A : ℤ
  A = c.args.a

  abbrev B : ℤ
  B = c.args.b

  ea : to_z w64 (of_z w64 A) ≡ A
  ea = to_z-of_z w64 A c.ranges.a

  eb : to_z w64 (of_z w64 B) ≡ B
  eb = to_z-of_z w64 B c.ranges.b

  ed : to_z w64 (of_z w64 (B -ℤ A)) ≡ B -ℤ A
  ed = to_z-of_z w64 (B -ℤ A) (span.diff_fits A B c.ranges.a c.ranges.b c.requires)

  es : to_z w64 (of_z w64 (B -ℤ A +ℤ pos 1)) ≡ B -ℤ A +ℤ pos 1
  es = to_z-of_z w64 (B -ℤ A +ℤ pos 1) (span.span_fits A B c.ranges.a c.ranges.b c.requires)

  module _ (w : ℕ) where
    abbrev R : ℕ
    R = w % nat_abs (B -ℤ A +ℤ pos 1)

    rest : SFits w64 (pos R)
    rest = span.above-fits A B c.ranges.a c.ranges.b c.requires R (span.rest_le A B c.ranges.a c.ranges.b c.requires w)

    pick : SFits w64 (A +ℤ pos R)
    pick = span.pick_fits A B c.ranges.a c.ranges.b c.requires R (span.rest_le A B c.ranges.a c.ranges.b c.requires w)

    er : to_z w64 R ≡ pos R
    er = to_z-of_z w64 (pos R) rest

    ep : to_z w64 (of_z w64 (A +ℤ pos R)) ≡ A +ℤ pos R
    ep = to_z-of_z w64 (A +ℤ pos R) pick

next-requires : tie.Need-next-d-requires
next-requires c κs = tt

sub-t7 : tie.Need-overflow_sub-result
sub-t7 c = let s = c.before.before in rw (eb s, ea s) (span.diff_fits (A s) (B s) s.ranges.a s.ranges.b s.requires)

add-t8 : tie.Need-overflow_add-result
add-t8 c = let s = c.before.before in rw (eb s, ea s, ed s) (span.span_fits (A s) (B s) s.ranges.a s.ranges.b s.requires)

cast-t9 : tie.Need-overflow_cast-result
cast-t9 c =
    let s = c.before.before in
    rw (eb s, ea s, ed s, es s)
    (span.span_non_neg (A s) (B s) s.ranges.a s.ranges.b s.requires, span.span_abs_fits (A s) (B s) s.ranges.a s.ranges.b s.requires)

rem-t10 : tie.Need-nonzero_rem-result
rem-t10 c = let s = c.before.before in rw (eb s, ea s, ed s, es s) (span.span-some (A s) (B s) s.ranges.a s.ranges.b s.requires)

cast-t11 : tie.Need-overflow_cast-result-2
cast-t11 c =
    let s = c.before.before in
    rw (eb s, ea s, ed s, es s) (rest s c.next-d.result.value)

add-t12 : tie.Need-overflow_add-result-2
add-t12 c =
    let s = c.before.before in
    let w = c.next-d.result.value in
    rw (eb s, ea s, ed s, es s, er s w) (pick s w)

returns : tie.Need-returns
unfolding draw_i64
returns c =
    let s = c.before.before in
    let w = c.next-d.result.value in
    rw (eb s, ea s, ed s, es s, er s w, ep s w) (drawn-by (λ (v : ℕ). A s +ℤ pos (v % nat_abs (B s -ℤ A s +ℤ pos 1))) c.next-d.ensures)

pub draw_i64_spec : {M : Type 1} → statement M
draw_i64_spec =
    tie.close (tie.spec next-requires sub-t7 add-t8 cast-t9 rem-t10 cast-t11 add-t12 returns)
