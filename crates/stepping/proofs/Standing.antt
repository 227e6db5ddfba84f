-- The word behind those that are written stands as it was; a nearest step by its tests.
use mathlib.Core.Path.{◌≡◌, sym, ap, ap₂, ◌∙◌}
use mathlib.Core.Bool.{true, false}
use mathlib.Core.List.{List}
use Prim.Native.Nat.{ℕ, zero, suc, ◌+◌, ◌*◌, ◌<◌}
use native.Mathlib.Nat.{mul-zero}
use native.Mathlib.Omega.{arith}
use lib.IntN.{ℤ, pos}
use lib.Signed.{lt_z}
use lib.Ieee.{Float, to_signed}
use lib.ListN.{length, get_or, drop}
use lib.Seq.{get_or-append-add, get_or-drop}
use Rattle.model.specs.Lists.{over}
use Rattle.model.specs.Real.{◌⊖◌, ◌⊘◌}
use Rattle.model.specs.Numbers.{round_of}
use Rattle.model.specs.Setting.{clamp_int, last_step, nearest_step}

pub next-stands : (v old : List ℕ) (j : ℕ) → length v ≡ j → get_or (over v old) j 0 ≡ get_or old j 0
next-stands v old j e =
    let p : j ≡ length v + 0 = omega arith in
    ap (λ (k : ℕ). get_or (over v old) k 0) p ∙ get_or-append-add v (drop (length v) old) 0 0 ∙ get_or-drop (length v) old 0 0 ∙ ap (λ (k : ℕ). get_or old k 0) (sym p)

-- where there is a word there is a dimension
pub some_dimension_lem : (j count n : ℕ) → j < count * n → 0 < n
some_dimension_lem j count zero h = omega (arith, mul-zero count)
some_dimension_lem j count (suc n) h = omega arith

-- ---- k of 0 to the last

pub held_below : (last k : ℤ) → lt_z k (pos 0) ≡ true → pos 0 ≡ clamp_int (pos 0) last k
held_below last k e = rw e

pub held-above : (last k : ℤ) → lt_z k (pos 0) ≡ false → lt_z last k ≡ true → last ≡ clamp_int (pos 0) last k
held-above last k e f = rw (e, f)

pub held-inside : (last k : ℤ) → lt_z k (pos 0) ≡ false → lt_z last k ≡ false → k ≡ clamp_int (pos 0) last k
held-inside last k e f = rw (e, f)

pub is_nearest : (low high step v : Float) (last k : ℤ) → last ≡ last_step low high step → k ≡ to_signed 63 (round_of ((v ⊖ low) ⊘ step))
    → clamp_int (pos 0) last k ≡ nearest_step low high step v
is_nearest low high step v last k e f = ap₂ (clamp_int (pos 0)) e f
