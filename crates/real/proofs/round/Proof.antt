-- By the sign, and by whether x has digits after the point.
use Rattle.std.proofs.Common.{◌≡◌, false, T, ap, ◌∙◌, rules}
use lib.Ieee.{Float, binary64, of_bits, fits, neg, lt, is_nan}
use lib.Ieee.Fits.{neg-fits}
use Rattle.float_laws.proofs.Order.{lt_not_nan, nlt→le}
use Rattle.float_laws.proofs.Constants.{nought, exp2}
use Rattle.list_laws.proofs.Bools.{true_T, false_T}
use Rattle.real_laws.proofs.Halves.{round-by_neg, above_zero, from-whole, from-whole_neg, zero_or_nan}
use Rattle.real.proofs.round.Statement.{statement}
use Rattle.real.proofs.round.Tie as tie

held : (c : tie.Start) → T (fits binary64 c.args.x)
held c = true_T _ c.well_formed.0.1

-- above zero, and not below 2^52
far : (x : Float) → T (lt nought x) → lt x (exp2 52) ≡ false → T (lib.Ieee.le (exp2 52) x)
unfolding is_nan
far x h k = nlt→le x (exp2 52) (lt_not_nan nought x h).1 tt (false_T (lt x (exp2 52)) k)

round-above-zero-requires : tie.Need-round_above_zero-requires
unfolding of_bits
round-above-zero-requires c κs = (true_T _ c.if-x.true, true_T _ c.if-x-2.true)

round-above-zero-requires-2 : tie.Need-round_above_zero-requires-then-y
unfolding of_bits
round-above-zero-requires-2 c κs = (above_zero _ (true_T _ c.if-x-3.true), true_T _ c.if-y.true)

returns : tie.Need-returns-then-x-2
returns c = search rules

returns-2 : tie.Need-returns-else-x-2
unfolding of_bits
returns-2 c =
    let s = c.before.before in
    from-whole s.args.x (held s) (far s.args.x (true_T _ c.if-x.true) c.if-x-2.false)

returns-3 : tie.Need-returns-then-y
returns-3 c = ap neg c.round_above_zero-then-y.ensures ∙ round-by_neg c.args.x

returns-4 : tie.Need-returns-else-y
unfolding of_bits
returns-4 c =
    let s = c.before.before.before in
    let x = s.args.x in
    from-whole_neg x (neg-fits binary64 x (held s)) (far (neg x) (above_zero x (true_T _ c.if-x-3.true)) c.if-y.false)

returns-5 : tie.Need-returns-else-x-3
unfolding of_bits
returns-5 c = let s = c.before.before in zero_or_nan s.args.x (held s) c.if-x.false c.if-x-3.false

pub round_spec : {M : Type 1} → statement M
round_spec =
    tie.close
    (tie.spec
    round-above-zero-requires
    round-above-zero-requires-2
    returns
    returns-2
    returns-3
    returns-4
    returns-5)
