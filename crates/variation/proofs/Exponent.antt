-- An eta that is accepted can be cast, and its exponent is at most 100.
use Rattle.std.proofs.Common.{◌≡◌, ℕ, ◌-◌, ◌*◌, ◌/◌, ◌^◌, ◌≤◌, true, false, T, pos, zero-le, le_trans, arith}
use native.Mathlib.Nat.{min-le_left, div-le_of_le-mul}
use lib.Ieee.{Float, nan, inf, fin, up, down, of_bits, to_unsigned, eq, le, lt}
use Rattle.float_laws.proofs.Units.{→sle}
use Rattle.list_laws.proofs.Bools.{and_left, and_t}
use Rattle.model.specs.Real.{nought, within}
use Rattle.model.specs.Refusal.{ninety_nine, whole_eta}
use Rattle.settings.proofs.Eta.{castable}

module _ (x : Float) (h : whole_eta x ≡ true) where
  inside : within nought ninety_nine x ≡ true
  unfolding whole_eta
  inside = and_left (within nought ninety_nine x) _ h

  to : T (le x ninety_nine)
  to = (and_t (le nought x) (le x ninety_nine) inside).1

  pub eta_castable : T (lt (fin true 1 (pos 0)) x) × T (lt x (fin false 1 (pos 64)))
  eta_castable = castable x inside

-- the whole part of what is at most 99
part : (x : Float) → T (le x (fin false 99 (pos 0))) → to_unsigned 64 x ≤ 99
unfolding to_unsigned le lt eq
part nan h = zero-le
part (inf true) h = zero-le
part (inf false) h = absurd h
part (fin true m e) h = zero-le
part (fin false m e) h =
    let l : m * up e * 1 ≤ 99 * 1 * down e = →sle false (m * up e * 1) false (99 * 1 * down e) h in
    le_trans (min-le_left (m * up e / down e) (2 ^ 64 - 1)) (div-le_of_le-mul (down e) (turned (m * up e) (down e) l))
  where
    turned : (a d : ℕ) → a * 1 ≤ 99 * 1 * d → a ≤ d * 99
    turned a d l = omega arith

pub small : (x : Float) → whole_eta x ≡ true → to_unsigned 64 x ≤ 99
unfolding of_bits
small x h = part x (to x h)
