-- `last_state`: as many words as there are values and constraints.
use Prim.Native.Nat.{◌+◌}
use mathlib.Core.Path.{sym, ◌∙◌}
use native.Mathlib.Nat.{mul-le-mul}
use native.Mathlib.Omega.{arith}
use Rattle.load_text.proofs.States.{all_words}
use Rattle.load_text.proofs.last_state.Statement.{statement}
use Rattle.load_text.proofs.last_state.Tie as tie

add-jump : tie.Need-overflow_add-m
add-jump c = omega arith

mul-jump : tie.Need-overflow_mul-n
mul-jump c = omega (arith, mul-le-mul {n₁ = c.args.n} {m₁ = c.args.m + c.args.c} {n₂ = 1024} {m₂ = 24} c.requires.0 (omega arith))

jump-requires : tie.Need-jump-end-requires
jump-requires c κs = tt

returns : tie.Need-returns
returns c = let a = c.args in c.jump-end.ensures ∙ sym (all_words a.m a.c a.n a.start.s)

pub last_state_spec : {M : Type 1} → statement M
last_state_spec = tie.close (tie.spec add-jump mul-jump jump-requires returns)
