-- The order of all floats: `le` and `lt` are a total order on every float but NaN, whatever its format, with -0 level with +0. State facts by `T (le x y)`,
-- not by `≡`, since the two zeros differ as data. A test of the code gives `le x y ≡ true`: `true_T _ e` makes the fact of it.
use mathlib.Core.Path.{refl}
use mathlib.Core.Logic.{◌⊎◌, inl, inr}
use Prim.Native.Nat.{ℕ, ◌+◌, ◌*◌, ◌≤◌, ◌<◌}
use native.Mathlib.Nat.{le_of_eq, lt_of_not-le, not-le_of_lt, mul_assoc, mul_comm, mul_left_comm, mul-pos}
use native.Mathlib.Omega.{arith}
use mathlib.Core.Bool.{Bool, true, false, not}
use lib.IntN.{ℤ}
use lib.Dec.{T, not_T, nltb→le}
use lib.Ieee.{Float, nan, inf, fin, Format, up, down, below, le, lt, eq, is_nan}
use lib.Ieee.Fits.{down_pos}
use lib.Ieee.Exact.{HasValue}
use Rattle.list_laws.proofs.Bools.{by_bool, true_T, false_T, or_l, or_r}
use Rattle.float_laws.proofs.Units.{Counts, SLe, SLt, sle→, →sle, →slt, le→sle, sle→le, le→counts, counts→le}

sle_trans : (s t u : Bool) (a b c : ℕ) → SLe s a t b → SLe t b u c → SLe s a u c
sle_trans false false false a b c h k = omega arith
sle_trans false false true a b c h k = omega arith
sle_trans false true false a b c h k = omega arith
sle_trans false true true a b c h k = omega arith
sle_trans true false false a b c h k = tt
sle_trans true false true a b c h k = omega arith
sle_trans true true false a b c h k = tt
sle_trans true true true a b c h k = omega arith

-- three finite floats over one denominator
fin_trans : (s : Bool) (m : ℕ) (e : ℤ) (t : Bool) (n : ℕ) (d : ℤ) (u : Bool) (k : ℕ) (i : ℤ) → T (le (fin s m e) (fin t n d)) → T (le (fin t n d) (fin u k i)) → T (le (fin s m e) (fin u k i))
fin_trans s m e t n d u k i h j =
    let x = down e in
    let y = down d in
    let z = down i in
    let L = x * (y * z) in
    let P : 0 < L = mul-pos (down_pos e) (mul-pos (down_pos d) (down_pos i)) in
    let a = m * up e in
    let b = n * up d in
    let c = k * up i in
    let A : HasValue (fin s m e) s (a * (y * z)) L = (refl, simp (mul_assoc, mul_comm, mul_left_comm)) in
    let B : HasValue (fin t n d) t (b * (x * z)) L = (refl, simp (mul_assoc, mul_comm, mul_left_comm)) in
    let C : HasValue (fin u k i) u (c * (x * y)) L = (refl, simp (mul_assoc, mul_comm, mul_left_comm)) in
    sle→le L (fin s m e) (fin u k i) s u (a * (y * z)) (c * (x * y)) P A C
    (sle_trans s t u (a * (y * z)) (b * (x * z)) (c * (x * y))
    (le→sle L (fin s m e) (fin t n d) s t (a * (y * z)) (b * (x * z)) P A B h)
    (le→sle L (fin t n d) (fin u k i) t u (b * (x * z)) (c * (x * y)) P B C j))

pub le_not_nan : (x y : Float) → T (le x y) → T (not (is_nan x)) × T (not (is_nan y))
unfolding le is_nan
le_not_nan nan y h = absurd h
le_not_nan (inf s) nan h = absurd h
le_not_nan (inf s) (inf t) h = (tt, tt)
le_not_nan (inf s) (fin t n d) h = (tt, tt)
le_not_nan (fin s m e) nan h = absurd h
le_not_nan (fin s m e) (inf t) h = (tt, tt)
le_not_nan (fin s m e) (fin t n d) h = (tt, tt)

pub le_trans : (x y z : Float) → T (le x y) → T (le y z) → T (le x z)
unfolding le is_nan
le_trans nan y z h k = absurd h
le_trans (inf true) y nan h k = absurd (le_not_nan y nan k).1
le_trans (inf true) y (inf true) h k = tt
le_trans (inf true) y (inf false) h k = tt
le_trans (inf true) y (fin u n i) h k = tt
le_trans (inf false) nan z h k = absurd h
le_trans (inf false) (inf true) z h k = absurd h
le_trans (inf false) (inf false) z h k = k
le_trans (inf false) (fin t n d) z h k = absurd h
le_trans (fin s m e) nan z h k = absurd h
le_trans (fin s m e) (inf true) z h k = absurd h
le_trans (fin s m e) (inf false) nan h k = absurd k
le_trans (fin s m e) (inf false) (inf true) h k = absurd k
le_trans (fin s m e) (inf false) (inf false) h k = tt
le_trans (fin s m e) (inf false) (fin u n i) h k = absurd k
le_trans (fin s m e) (fin t n d) nan h k = absurd k
le_trans (fin s m e) (fin t n d) (inf true) h k = absurd k
le_trans (fin s m e) (fin t n d) (inf false) h k = tt
le_trans (fin s m e) (fin t n d) (fin u l i) h k = fin_trans s m e t n d u l i h k

pub lt→le : (x y : Float) → T (lt x y) → T (le x y)
unfolding le
lt→le x y h = or_l (lt x y) _ h

pub lt_not_nan : (x y : Float) → T (lt x y) → T (not (is_nan x)) × T (not (is_nan y))
lt_not_nan x y h = le_not_nan x y (lt→le x y h)

pub eq→le : (x y : Float) → T (eq x y) → T (le x y)
unfolding le
eq→le x y h = or_r (lt x y) (eq x y) h

slt_clash : (s t : Bool) (a b : ℕ) → SLt s a t b → SLe t b s a → ⊥
slt_clash false false a b h k = omega arith
slt_clash false true a b h k = h
slt_clash true false a b h k = omega arith
slt_clash true true a b h k = omega arith

pub lt→nle : (x y : Float) → T (lt x y) → T (le y x) → ⊥
unfolding le lt
lt→nle nan y h k = h
lt→nle (inf s) nan h k = h
lt→nle (inf true) (inf true) h k = h
lt→nle (inf true) (inf false) h k = k
lt→nle (inf false) (inf t) h k = h
lt→nle (inf true) (fin t n d) h k = k
lt→nle (inf false) (fin t n d) h k = h
lt→nle (fin s m e) nan h k = h
lt→nle (fin s m e) (inf true) h k = h
lt→nle (fin s m e) (inf false) h k = k
lt→nle (fin s m e) (fin t n d) h k =
    slt_clash s t (m * up e * down d) (n * up d * down e) (→slt s (m * up e * down d) t (n * up d * down e) h) (→sle t (n * up d * down e) s (m * up e * down d) k)

pub le→nlt : (x y : Float) → T (le x y) → T (not (lt y x))
le→nlt x y h = not_T (lt y x) (λ l. lt→nle y x l h)

-- which of two it is
nbelow : (s : Bool) (a : ℕ) (t : Bool) (b : ℕ) → T (not (below s a t b)) → SLe t b s a
nbelow false a false b h = nltb→le a b h
nbelow false a true b h = tt
nbelow true a false b h = let z = nltb→le 0 (a + b) h in omega arith
nbelow true a true b h = nltb→le b a h

pub nlt→le : (x y : Float) → T (not (is_nan x)) → T (not (is_nan y)) → T (not (lt x y)) → T (le y x)
unfolding le lt is_nan
nlt→le nan y p q h = absurd p
nlt→le (inf s) nan p q h = absurd q
nlt→le (inf true) (inf true) p q h = tt
nlt→le (inf true) (inf false) p q h = absurd h
nlt→le (inf false) (inf true) p q h = tt
nlt→le (inf false) (inf false) p q h = tt
nlt→le (inf true) (fin t n d) p q h = absurd h
nlt→le (inf false) (fin t n d) p q h = tt
nlt→le (fin s m e) nan p q h = absurd q
nlt→le (fin s m e) (inf true) p q h = tt
nlt→le (fin s m e) (inf false) p q h = absurd h
nlt→le (fin s m e) (fin t n d) p q h = sle→ t (n * up d * down e) s (m * up e * down d) (nbelow s (m * up e * down d) t (n * up d * down e) h)

pub lt_or_le : (x y : Float) → T (not (is_nan x)) → T (not (is_nan y)) → T (lt x y) ⊎ T (le y x)
lt_or_le x y p q = by_bool (lt x y) (λ e. inl (true_T (lt x y) e)) (λ e. inr (nlt→le x y p q (false_T (lt x y) e)))

pub nle→lt : (x y : Float) → T (not (is_nan x)) → T (not (is_nan y)) → (T (le y x) → ⊥) → T (lt x y)
nle→lt x y p q h = elim (lt_or_le x y p q) [ inl l ↦ l | inr g ↦ absurd (h g) ]

pub le_total : (x y : Float) → T (not (is_nan x)) → T (not (is_nan y)) → T (le x y) ⊎ T (le y x)
le_total x y p q = elim (lt_or_le x y p q) [ inl l ↦ inl (lt→le x y l) | inr h ↦ inr h ]

pub le_refl : (x : Float) → T (not (is_nan x)) → T (le x x)
le_refl x p = elim (le_total x x p p) [ inl l ↦ l | inr l ↦ l ]

pub lt_irrefl : (x : Float) → T (lt x x) → ⊥
lt_irrefl x h = lt→nle x x h (lt→le x x h)

pub lt_le_trans : (x y z : Float) → T (lt x y) → T (le y z) → T (lt x z)
lt_le_trans x y z h k = nle→lt x z (lt_not_nan x y h).0 (le_not_nan y z k).1 (λ g. lt→nle x y h (le_trans y z x k g))

pub le_lt_trans : (x y z : Float) → T (le x y) → T (lt y z) → T (lt x z)
le_lt_trans x y z h k = nle→lt x z (le_not_nan x y h).0 (lt_not_nan y z k).1 (λ g. lt→nle y z k (le_trans z x y g h))

pub lt_trans : (x y z : Float) → T (lt x y) → T (lt y z) → T (lt x z)
lt_trans x y z h k = lt_le_trans x y z h (lt→le y z k)

-- ---- the strict order of finite floats, in counts
counts-not-nan : (f : Format) (x : Float) (p n : ℕ) → Counts f x p n → T (not (is_nan x))
counts-not-nan f x p n a = (le_not_nan x x (counts→le f x x p n p n a a (le_of_eq refl))).0

module _ (f : Format) (x y : Float) (p n p' n' : ℕ) (a : Counts f x p n) (b : Counts f y p' n') where
  pub lt→counts : T (lt x y) → p + n' < p' + n
  lt→counts l = lt_of_not-le (λ (k : p' + n ≤ p + n'). lt→nle x y l (counts→le f y x p' n' p n b a k))

  pub counts→lt : p + n' < p' + n → T (lt x y)
  counts→lt l = nle→lt x y (counts-not-nan f x p n a) (counts-not-nan f y p' n' b) (λ g. not-le_of_lt l (le→counts f y x p' n' p n b a g))

-- of numbers from 0 up
module _ (f : Format) (x y : Float) (p q : ℕ) (a : Counts f x p 0) (b : Counts f y q 0) where
  pub lt→count : T (lt x y) → p < q
  lt→count l = let h = lt→counts f x y p 0 q 0 a b l in omega arith

  pub count→lt : p < q → T (lt x y)
  count→lt l = counts→lt f x y p 0 q 0 a b (omega arith)
