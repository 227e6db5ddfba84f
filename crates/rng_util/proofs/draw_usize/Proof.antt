-- The word's remainder.
use borrow.Author.Rules.{rules}
use Prim.Native.Nat.{ℕ, ◌%◌}
use Rattle.model.specs.Draw.{draw_usize}
use Rattle.list_laws.proofs.Draws.{drawn-by}
use Rattle.rng_util.proofs.draw_usize.Statement.{statement}
use Rattle.rng_util.proofs.draw_usize.Tie as tie

next-requires : tie.Need-next-d-requires
next-requires c κs = tt

rem-t7 : tie.Need-nonzero_rem-result
rem-t7 c = search rules

returns : tie.Need-returns
unfolding draw_usize
returns c = drawn-by (λ (w : ℕ). w % c.args.n) c.next-d.ensures

pub draw_usize_spec : {M : Type 1} → statement M
draw_usize_spec = tie.close (tie.spec next-requires rem-t7 returns)
