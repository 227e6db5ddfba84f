-- Bit patterns: floats with the sign clear, no NaN among them, are in the order of their patterns.
use mathlib.Core.Path.{◌≡◌, refl, sym, ap, ◌∙◌, subst}
use mathlib.Core.Logic.{inl, inr}
use Prim.Native.Nat.{ℕ, suc, ◌+◌, ◌-◌, ◌*◌, ◌/◌, ◌^◌, ◌≤◌, ◌<◌, zero-le}
use native.Mathlib.Nat.{le_trans, le_of_eq, le_of_lt, lt_of_le_of_lt, lt_of_lt_of_le, le_antisymm, eq-or-lt_of_le, lt_of_not-le, zero-add, add-mul, mul-le-mul_right, mul-div_cancel, pow-succ'}
use native.Mathlib.Omega.{arith}
use mathlib.Core.Bool.{Bool, true, false}
use lib.IntN.{ℤ}
use lib.Dec.{T}
use lib.Pow.{pow_pos}
use lib.Ieee.{Float, nan, inf, fin, Format, prec, emax, low, up, down, size, le, lt, fits, hid, ones, to_bits, of_bits}
use lib.Ieee.Digits.{size-lt, size-le}
use lib.Ieee.Fits.{down_pos, kept-lt, two, reach}
use lib.Ieee.Bits.{of_bits-to_bits}
use lib.Ieee.Nearest.{div_mono}
use Rattle.float_laws.proofs.Units.{le→count, top_digits, placed}
use Rattle.float_laws.proofs.Order as total
use Rattle.float_laws.proofs.Rounding.{unsigned, under}
use Rattle.float_laws.proofs.Constants.{unsigned-not-nan}

-- the pattern of g units
abbrev enc : ℕ → ℕ → ℕ
enc p g = (size g - p) * 2 ^ (p - 1) + g / 2 ^ (size g - p)

twice : (p : ℕ) → 0 < p → 2 ^ p ≡ 2 * 2 ^ (p - 1)
twice p h = ap (λ (x : ℕ). 2 ^ x) (back p h) ∙ pow-succ' 2 (p - 1)
  where
    back : (p : ℕ) → 0 < p → p ≡ suc (p - 1)
    back p h = omega arith

full : (p g : ℕ) → 0 < p → 0 < size g - p → 2 ^ (p - 1) ≤ g / 2 ^ (size g - p)
full p g P h = top_digits g (p - 1) (size g - p) (omega arith)

-- j < k: j * H + a < k * H + b for a < 2 * H and H ≤ b
apart : (j k H a b : ℕ) → suc j ≤ k → a < 2 * H → H ≤ b → j * H + a < k * H + b
apart j k H a b h x y =
    let m : suc j * H ≤ k * H = mul-le-mul_right H h in
    let e : suc j * H ≡ j * H + H = native.Mathlib.Nat.suc-mul j H in
    omega arith

enc_mono : (p g h : ℕ) → 0 < p → g ≤ h → enc p g ≤ enc p h
enc_mono p g h P l =
    let sz : size g ≤ size h = size-le g (size h) (lt_of_le_of_lt l (size-lt h)) in
    elim (eq-or-lt_of_le (fewer (size g) (size h) p sz)) [
      | inl e ↦ subst (λ (j : ℕ). j * 2 ^ (p - 1) + g / 2 ^ j ≤ enc p h) (sym e) (plus (div_mono g (2 ^ (size h - p)) h (2 ^ (size h - p)) (pow_pos (size h - p)) (pow_pos (size h - p)) (mul-le-mul_right (2 ^ (size h - p)) l)))
      | inr k ↦ le_of_lt (apart (size g - p) (size h - p) (2 ^ (p - 1)) (g / 2 ^ (size g - p)) (h / 2 ^ (size h - p)) k (subst (λ (z : ℕ). g / 2 ^ (size g - p) < z) (twice p P) (kept-lt p g)) (full p h P (lt_of_le_of_lt zero-le k)))
    ]
  where
    fewer : (x y p : ℕ) → x ≤ y → x - p ≤ y - p
    fewer x y p h = omega arith

    plus : {a b : ℕ} → a ≤ b → (size h - p) * 2 ^ (p - 1) + a ≤ (size h - p) * 2 ^ (p - 1) + b
    plus l = omega arith

-- the pattern of a finite value
bits_is : (f : Format) (m : ℕ) (e : ℤ) (g : ℕ) → m * up e * 2 ^ low f ≡ g * down e → to_bits f (fin false m e) ≡ enc (prec f) g
unfolding to_bits
bits_is f m e g h =
    let q : m * up e * 2 ^ low f / down e ≡ g = ap (λ (x : ℕ). x / down e) h ∙ mul-div_cancel g (down_pos e) in
    ap (λ (n : ℕ). 0 + (size n - prec f) * hid f + n / 2 ^ (size n - prec f)) q
    ∙ ap (λ (x : ℕ). x + g / 2 ^ (size g - prec f)) (zero-add ((size g - prec f) * hid f))

prec_pos : (f : Format) → 0 < prec f
prec_pos f = let t = two f in omega arith

-- below the pattern of the infinity
room : (e p z : ℕ) → 2 ≤ p → p ≤ suc e → z ≤ e + p - 2 + suc e → suc (z - p) ≤ 2 * e
room e p z a b h = omega arith

enc_lt : (f : Format) (g : ℕ) → g < 2 ^ (low f + suc (emax f)) → enc (prec f) g < ones f * hid f
enc_lt f g h =
    let z : size g ≤ low f + suc (emax f) = size-le g (low f + suc (emax f)) h in
    let k = size g - prec f in
    let H = hid f in
    let a : g / 2 ^ k < 2 * H = subst (λ (z : ℕ). g / 2 ^ k < z) (twice (prec f) (prec_pos f)) (kept-lt (prec f) g) in
    let b : suc k ≤ 2 * emax f = room (emax f) (prec f) (size g) (two f) (reach f) z in
    let c : k * H + g / 2 ^ k < 2 * emax f * H + H = apart k (2 * emax f) H (g / 2 ^ k) H b a (le_of_eq refl) in
    let d : ones f * H ≡ 2 * emax f * H + H = add-mul (2 * emax f) 1 H ∙ ap (λ (x : ℕ). 2 * emax f * H + x) (native.Mathlib.Nat.one-mul H) in
    lt_of_lt_of_le c (le_of_eq (sym d))

no_le : (t : Bool) (n : ℕ) (d : ℤ) → T (le (inf false) (fin t n d)) → ⊥
unfolding le
no_le t n d h = h

inf_bits : (f : Format) → ones f * hid f ≤ to_bits f (inf false)
unfolding to_bits
inf_bits f = le_of_eq (sym (zero-add (ones f * hid f)))

pub le→bits : (f : Format) (x y : Float) → T (fits f x) → T (fits f y) → T (unsigned x) → T (unsigned y) → T (le x y) → to_bits f x ≤ to_bits f y
le→bits f nan y X Y a b h = absurd a
le→bits f (inf true) y X Y a b h = absurd a
le→bits f (inf false) nan X Y a b h = absurd b
le→bits f (inf false) (inf true) X Y a b h = absurd b
le→bits f (inf false) (inf false) X Y a b h = le_of_eq refl
le→bits f (inf false) (fin t n d) X Y a b h = absurd (no_le t n d h)
le→bits f (fin true m e) y X Y a b h = absurd a
le→bits f (fin false m e) nan X Y a b h = absurd b
le→bits f (fin false m e) (inf true) X Y a b h = absurd b
le→bits f (fin false m e) (inf false) X Y a b h =
    let j = placed f false m e X in
    le_of_lt (subst (λ (z : ℕ). z < to_bits f (inf false)) (sym (bits_is f m e (m * 2 ^ j.0) j.1)) (lt_of_lt_of_le (enc_lt f (m * 2 ^ j.0) (under f m e j.0 j.1 j.3)) (inf_bits f)))
le→bits f (fin false m e) (fin true n d) X Y a b h = absurd b
le→bits f (fin false m e) (fin false n d) X Y a b h =
    let i = placed f false m e X in
    let j = placed f false n d Y in
    let g = m * 2 ^ i.0 in
    let k = n * 2 ^ j.0 in
    let l = le→count f (fin false m e) (fin false n d) g k (g, i.1, sym (zero-add g)) (k, j.1, sym (zero-add k)) h in
    le_trans (le_of_eq (bits_is f m e g i.1)) (le_trans (enc_mono (prec f) g k (prec_pos f) l) (le_of_eq (sym (bits_is f n d k j.1))))

-- one pattern, one value
same_bits : (f : Format) (x y : Float) → T (fits f x) → T (fits f y) → to_bits f x ≡ to_bits f y → x ≡ y
same_bits f x y X Y e = sym (of_bits-to_bits f x X) ∙ ap (λ (z : ℕ). of_bits f z) e ∙ of_bits-to_bits f y Y

pub bits→le : (f : Format) (x y : Float) → T (fits f x) → T (fits f y) → T (unsigned x) → T (unsigned y) → to_bits f x ≤ to_bits f y → T (le x y)
bits→le f x y X Y a b h = elim (total.le_total x y (unsigned-not-nan x a) (unsigned-not-nan y b)) [
  | inl l ↦ l
  | inr r ↦
      subst (λ (z : Float). T (le x z)) (same_bits f x y X Y (le_antisymm h (le→bits f y x Y X b a r))) (total.le_refl x (unsigned-not-nan x a))
]

pub lt→bits : (f : Format) (x y : Float) → T (fits f x) → T (fits f y) → T (unsigned x) → T (unsigned y) → T (lt x y) → to_bits f x < to_bits f y
lt→bits f x y X Y a b h = lt_of_not-le (λ (g : to_bits f y ≤ to_bits f x). total.lt→nle x y h (bits→le f y x Y X b a g))
