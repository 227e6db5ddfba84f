-- `sqrt` meets its contract. Its tests tell apart the ways that `sqrt_of` goes.
use mathlib.Core.Path.{◌≡◌, refl, sym, ap, ◌∙◌, subst}
use mathlib.Core.Logic.{inl, inr}
use Prim.Native.Nat.{ℕ, zero, suc, ◌*◌, ◌<◌, ◌≤◌}
use native.Mathlib.Nat.{not-le_of_lt, mul-pos, zero-mul, zero-lt-suc}
use native.Mathlib.Omega.{arith}
use mathlib.Core.Bool.{true, false, ◌||◌, beq, true≢false}
use lib.IntN.{ℤ}
use lib.Dec.{T, eqb, eqb→eq}
use lib.Ieee.{Float, nan, inf, fin, binary64, up, down, le, lt, eq, div, fits, of_bits, to_bits}
use lib.Ieee.Fits.{up_pos, and_l}
use lib.Ieee.Bits.{of_bits-to_bits}
use Rattle.list_laws.proofs.Bools.{true_T, false_T, or_split}
use Rattle.float_laws.proofs.Order.{le_not_nan, lt_not_nan, lt→nle, nlt→le}
use Rattle.float_laws.proofs.Rounding.{unsigned}
use Rattle.float_laws.proofs.Patterns.{lt→bits}
use Rattle.float_laws.proofs.Constants.{nought, nought-not-nan}
use Rattle.real_laws.proofs.Roots.Nearest.{no_root}
use Rattle.model.specs.Numbers.{sqrt_of}
use Rattle.square_root.proofs.sqrt.Statement.{statement}
use Rattle.square_root.proofs.sqrt.Tie as tie

-- ---- x is above 0
clear : (x : Float) → lt nought x ≡ true → T (unsigned x)
unfolding lt
clear nan h = absurd (true≢false (sym h))
clear (inf true) h = absurd (true≢false (sym h))
clear (inf false) h = tt
clear (fin true m e) h = absurd (true≢false (sym h))
clear (fin false m e) h = tt

pattern_above : (x : Float) → T (fits binary64 x) → lt nought x ≡ true → 0 < to_bits binary64 x
unfolding fits to_bits
pattern_above x X h = lt→bits binary64 nought x tt X tt (clear x h) (true_T _ h)

pattern_below : (m : ℕ) (e : ℤ) → T (fits binary64 (fin false m e)) → to_bits binary64 (fin false m e) < 0x7ff0_0000_0000_0000
unfolding fits to_bits lt
pattern_below m e X = lt→bits binary64 (fin false m e) (inf false) X tt tt tt tt

-- and has the pattern of the infinity, or one beyond it
infinite : (x : Float) → T (fits binary64 x) → lt nought x ≡ true → 0x7ff0_0000_0000_0000 ≤ to_bits binary64 x → x ≡ sqrt_of x
unfolding lt sqrt_of
infinite nan X h l = refl
infinite (inf true) X h l = absurd (true≢false (sym h))
infinite (inf false) X h l = refl
infinite (fin true m e) X h l = absurd (true≢false (sym h))
infinite (fin false m e) X h l = absurd (not-le_of_lt (pattern_below m e X) l)

-- ---- x is not above 0: it is level with 0, or it has no root
not_pos : (a : ℕ) → 0 < a → a ≡ 0 → ⊥
not_pos a h e = omega arith

level : (x : Float) → eq x nought ≡ true → x ≡ sqrt_of x
unfolding eq sqrt_of
level nan h = absurd (true≢false (sym h))
level (inf s) h = absurd (true≢false (sym h))
level (fin s zero e) h = refl
level (fin s (suc m) e) h = absurd (not_pos (suc m * up e * 1) (mul-pos (mul-pos (zero-lt-suc m) (up_pos e)) (zero-lt-suc 0)) (eqb→eq (suc m * up e * 1) (0 * 1 * down e) (and_l (eqb (suc m * up e * 1) (0 * 1 * down e)) (beq s false || eqb (suc m * up e * 1) 0) (true_T _ h)) ∙ zero-mul (down e)))

below : (x : Float) → lt nought x ≡ false → eq x nought ≡ false → T (le nought x) → ⊥
unfolding le
below x h k l = elim (or_split (lt x nought) (eq x nought) (nlt→le nought x nought-not-nan (le_not_nan nought x l).1 (false_T _ h))) [
  | inl m ↦ lt→nle x nought m l
  | inr e ↦ subst T k e
]

-- ---- the needs
held : (c : tie.Start) → T (fits binary64 c.args.x)
held c = true_T _ c.well_formed.0.1

float-to-bits-b : tie.Need-float_to_bits-b
unfolding of_bits
float-to-bits-b c = (lt_not_nan nought c.args.x (true_T _ c.if-x.true)).1

root-of-pattern-requires : tie.Need-root_of_pattern-requires
unfolding of_bits
root-of-pattern-requires c κs = (pattern_above c.args.x (held c.before.before) c.if-x.true, c.if-b-lt9218868437227405312.true)

returns : tie.Need-returns-then-b-lt9218868437227405312
returns c = c.root_of_pattern.ensures ∙ ap sqrt_of (of_bits-to_bits binary64 c.args.x (held c.before.before.before))

returns-2 : tie.Need-returns-else-b-lt9218868437227405312
unfolding of_bits
returns-2 c = infinite c.args.x (held c.before.before) c.if-x.true c.if-b-lt9218868437227405312.false

returns-3 : tie.Need-returns-then-x-2
unfolding of_bits
returns-3 c = level c.args.x c.if-x-2.true

returns-4 : tie.Need-returns-else-x-2
unfolding of_bits div
returns-4 c = let x = c.args.x in sym (no_root x (held c.before.before) (below x c.if-x.false c.if-x-2.false))

pub sqrt_spec : {M : Type 1} → statement M
sqrt_spec =
    tie.close (tie.spec float-to-bits-b root-of-pattern-requires returns returns-2 returns-3 returns-4)
