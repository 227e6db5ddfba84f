-- The upper 52 digits of the word over 2^52.
use mathlib.Core.Path.{◌≡◌, ap, ◌∙◌}
use Prim.Native.Nat.{ℕ, ◌/◌, ◌^◌}
use native.Mathlib.Omega.{arith}
use lib.Dec.{le→leb}
use lib.IntN.{pos}
use lib.Ieee.{Float, binary64, of_bits, of_int, in_float, div}
use Rattle.model.specs.Draw.{drawn, draw_word, unit_of, draw_f64}
use Rattle.list_laws.proofs.Draws.{drawn-by}
use Rattle.rng_lent.proofs.Words.{drawn-word}
use Rattle.rng_util.proofs.Unit.{quotient, upper-below}
use Rattle.rng_util.proofs.draw_f64.Statement.{statement}
use Rattle.rng_util.proofs.draw_f64.Tie as tie

next-requires : tie.Need-next-d-requires
next-requires c κs = tt

int-to-float-t6 : tie.Need-int_to_float-result
unfolding in_float
int-to-float-t6 c =
    let n = c.next-d in
    let h = drawn-word _ _ _ n.ensures in
    le→leb (n.result.value / 2 ^ 12) (2 ^ 53) (omega arith)

is_drawn : (s w t : ℕ) → drawn w t ≡ draw_word s → drawn (div binary64 (of_int binary64 (pos (w / 2 ^ 12))) (of_bits binary64 0x4330_0000_0000_0000)) t ≡ draw_f64 s
unfolding draw_f64 unit_of of_bits
is_drawn s w t e =
    ap (λ (x : Float). drawn x t) (quotient (w / 2 ^ 12) (upper-below w (drawn-word s w t e).0))
    ∙ drawn-by unit_of e

returns : tie.Need-returns
returns c = is_drawn _ _ _ c.next-d.ensures

pub draw_f64_spec : {M : Type 1} → statement M
draw_f64_spec = tie.close (tie.spec next-requires int-to-float-t6 returns)
