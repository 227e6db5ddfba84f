-- One rounding. `Rounded f x p n c` says that x is what `round` makes of (p - n) / c. Sums, differences and quotients of counted floats are such roundings
-- (`add-rounded`, `sub_rounded`, `div_rounded`; products in `Arithmetic`). Rounding keeps the order (`rounded_mono`), does not pass a value that the format
-- holds (`rounded_le`, `le_rounded`) and is exact where it can be (`rounded_exact`).
use mathlib.Core.Path.{◌≡◌, refl, sym, ap, ◌∙◌, subst, subst₂}
use mathlib.Core.Logic.{inl, inr}
use Prim.Native.Nat.{ℕ, zero, suc, ◌+◌, ◌-◌, ◌*◌, ◌^◌, ◌≤◌, ◌<◌}
use native.Mathlib.Nat.{le_of_eq, lt_irrefl, eq-zero-or-pos, zero-add, zero-mul, mul_comm, mul_assoc, mul_left_comm, mul_right_comm, mul-pos, add-mul, mul-lt-mul_of_pos_right, lt_of_mul-lt-mul_right, le_of_mul-le-mul_right, eq_of_mul-eq-mul_right}
use native.Mathlib.Omega.{arith}
use mathlib.Core.Bool.{Bool, true, false, not, cond}
use borrow.Author.Tests.{ltb-true, ltb-false}
use lib.IntN.{ℤ}
use lib.Dec.{T, lit<, ltb, eqb, ltb→lt, nltb→le}
use lib.Pow.{pow-add, pow_pos}
use lib.Ieee.{Float, nan, inf, fin, Format, prec, emax, low, up, down, fits, le, neg, round, units, odd, sum, add, sub, div}
use lib.Ieee.Fits.{up_pos, down_pos, round-fits}
use lib.Ieee.Exact.{HasValue, round_exact}
use lib.Ieee.Order.{round_mono}
use lib.Ieee.Positive.{first_pos}
use lib.Ieee.Scale.{finite, round_same}
use Rattle.list_laws.proofs.Bools.{by_cond}
use Rattle.float_laws.proofs.Order.{le_trans as le-trans-float}
use Rattle.float_laws.proofs.Units.{Sgn, Counts, SLe, no_sum, sle→, →sle, sle→le, dif→sle, le→counts, counts→le, placed, counts_of, counts_finite, counts_same, sgn_same}

-- ---- negation turns the order round
pub le_neg : (x y : Float) → T (le x y) → T (le (neg y) (neg x))
unfolding le neg
le_neg nan y h = absurd h
le_neg (inf s) nan h = absurd h
le_neg (inf true) (inf true) h = tt
le_neg (inf true) (inf false) h = tt
le_neg (inf false) (inf true) h = absurd h
le_neg (inf false) (inf false) h = tt
le_neg (inf true) (fin true n d) h = tt
le_neg (inf true) (fin false n d) h = tt
le_neg (inf false) (fin t n d) h = absurd h
le_neg (fin s m e) nan h = absurd h
le_neg (fin s m e) (inf true) h = absurd h
le_neg (fin s m e) (inf false) h = tt
le_neg (fin false m e) (fin false n d) h = sle→ true (n * up d * down e) true (m * up e * down d) (→sle false (m * up e * down d) false (n * up d * down e) h)
le_neg (fin false m e) (fin true n d) h = sle→ false (n * up d * down e) true (m * up e * down d) (swap (m * up e * down d) (n * up d * down e) (→sle false (m * up e * down d) true (n * up d * down e) h))
  where
    swap : (a b : ℕ) → a + b ≤ 0 → b + a ≤ 0
    swap a b h = omega arith
le_neg (fin true m e) (fin false n d) h = sle→ true (n * up d * down e) false (m * up e * down d) tt
le_neg (fin true m e) (fin true n d) h = sle→ false (n * up d * down e) false (m * up e * down d) (→sle true (m * up e * down d) true (n * up d * down e) h)

-- ---- `round` with the other sign is the negation
odd_neg : (d q k l : ℕ) → odd d true q k l ≡ neg (odd d false q k l)
unfolding odd neg
odd_neg d zero k l = refl
odd_neg d (suc q) k l = refl

cond_neg : (b : Bool) (x y : Float) → cond b (neg x) (neg y) ≡ neg (cond b x y)
cond_neg true x y = refl
cond_neg false x y = refl

units_neg : (f : Format) (q k : ℕ) → units f true q k ≡ neg (units f false q k)
unfolding units neg
units_neg f q k =
    ap (λ (z : Float). cond (ltb (q * 2 ^ k) (2 ^ (low f + suc (emax f)))) z (inf true)) (odd_neg (suc (prec f)) q k (low f))
    ∙ cond_neg (ltb (q * 2 ^ k) (2 ^ (low f + suc (emax f)))) (odd (suc (prec f)) false q k (low f)) (inf false)

pub round_neg : (f : Format) (a b : ℕ) → round f true a b ≡ neg (round f false a b)
unfolding round
round_neg f a b = units_neg f _ _

-- ---- no NaN, and the sign clear: -0 is not among these, and what `le` has from 0 up includes it
abbrev pub unsigned : Float → Bool
unsigned nan = false
unsigned (inf s) = not s
unsigned (fin s m e) = not s

pub odd_unsigned : (d q k l : ℕ) → T (unsigned (odd d false q k l))
unfolding odd
odd_unsigned d zero k l = tt
odd_unsigned d (suc q) k l = tt

units_unsigned : (f : Format) (q k : ℕ) → T (unsigned (units f false q k))
unfolding units
units_unsigned f q k = by_cond (λ (x : Float). T (unsigned x)) (ltb (q * 2 ^ k) (2 ^ (low f + suc (emax f)))) (odd (suc (prec f)) false q k (low f)) (inf false) (λ e. odd_unsigned (suc (prec f)) q k (low f)) (λ e. tt)

pub round-unsigned : (f : Format) (a b : ℕ) → T (unsigned (round f false a b))
unfolding round
round-unsigned f a b = units_unsigned f _ _

pub minus_below : (x y : Float) → T (unsigned x) → T (unsigned y) → T (le (neg x) y)
unfolding le neg
minus_below nan y p q = absurd p
minus_below (inf true) y p q = absurd p
minus_below (inf false) nan p q = absurd q
minus_below (inf false) (inf true) p q = absurd q
minus_below (inf false) (inf false) p q = tt
minus_below (inf false) (fin t n d) p q = tt
minus_below (fin true m e) y p q = absurd p
minus_below (fin false m e) nan p q = absurd q
minus_below (fin false m e) (inf true) p q = absurd q
minus_below (fin false m e) (inf false) p q = tt
minus_below (fin false m e) (fin true n d) p q = absurd q
minus_below (fin false m e) (fin false n d) p q = sle→ true (m * up e * down d) false (n * up d * down e) tt

-- ---- zero, of either sign
round-zero : (f : Format) (s : Bool) (b : ℕ) → 0 < b → HasValue (round f s 0 b) s 0 b
round-zero f s b B = round_exact f s 0 b 0 0 B (pow_pos (prec f)) (pow_pos (low f + suc (emax f))) (zero-mul (2 ^ low f) ∙ sym (zero-mul b))

-- ---- the signed order of fractions is kept
zero_left : (a d b : ℕ) → 0 < d → a * d + b ≤ 0 → a ≡ 0
zero_left a d b D h = elim (eq-zero-or-pos a) [ inl z ↦ z | inr p ↦ absurd (no_sum (a * d) b (mul-pos p D) h) ]

pub round_sle : (f : Format) (s : Bool) (a b : ℕ) (t : Bool) (c d : ℕ) → 0 < b → 0 < d → SLe s (a * d) t (c * b) → T (le (round f s a b) (round f t c d))
round_sle f false a b false c d B D h = round_mono f a b c d B D h
round_sle f false a b true c d B D h =
    let x : a ≡ 0 = zero_left a d (c * b) D h in
    let y : c ≡ 0 = zero_left c b (a * d) B (omega arith) in
    subst₂ (λ (v w : Float). T (le v w)) (sym (nil false a b B x)) (sym (nil true c d D y))
    (sle→le 1 (round f false 0 1) (round f true 0 1) false true 0 0 (lit< tt) (round-zero f false 1 (lit< tt)) (round-zero f true 1 (lit< tt)) (le_of_eq refl))
  where
    nil : (s : Bool) (a b : ℕ) → 0 < b → a ≡ 0 → round f s a b ≡ round f s 0 1
    nil s a b B e = round_same f s a b 0 1 B (lit< tt) (ap (λ (z : ℕ). z * 1) e ∙ sym (zero-mul b))
round_sle f true a b false c d B D h =
    subst (λ (z : Float). T (le z (round f false c d))) (sym (round_neg f a b)) (minus_below (round f false a b) (round f false c d) (round-unsigned f a b) (round-unsigned f c d))
round_sle f true a b true c d B D h =
    subst (λ (z : Float). T (le z (round f true c d))) (sym (round_neg f a b))
    (subst (λ (z : Float). T (le (neg (round f false a b)) z)) (sym (round_neg f c d))
    (le_neg (round f false c d) (round f false a b) (round_mono f c d a b D B h)))

-- ---- x is (p - n) / c rounded
abbrev pub Rounded : Format → Float → ℕ → ℕ → ℕ → Type 0
Rounded f x p n c = (r : Bool) × (g : ℕ) × (x ≡ round f r g c) × Sgn r g p n

scale_sgn : (r : Bool) (g p n k : ℕ) → Sgn r g p n → Sgn r (g * k) (p * k) (n * k)
scale_sgn false g p n k e = ap (λ (z : ℕ). z * k) e ∙ add-mul n g k
scale_sgn true g p n k e = ap (λ (z : ℕ). z * k) e ∙ add-mul p g k

pub rounded_mono : (f : Format) (x y : Float) (p n c p' n' c' : ℕ) → 0 < c → 0 < c' → Rounded f x p n c → Rounded f y p' n' c' → p * c' + n' * c ≤ p' * c + n * c' → T (le x y)
rounded_mono f x y p n c p' n' c' C C' a b h =
    subst (λ (z : Float). T (le z y)) (sym a.2)
    (subst (λ (z : Float). T (le (round f a.0 a.1 c) z)) (sym b.2)
    (round_sle f a.0 a.1 c b.0 b.1 c' C C'
    (dif→sle a.0 b.0 (a.1 * c') (b.1 * c) (p * c') (n * c') (p' * c) (n' * c) (scale_sgn a.0 a.1 p n c' a.3) (scale_sgn b.0 b.1 p' n' c b.3) h)))

-- ---- `Rounded` turns only on the value (p - n) / c
part : (G g p n L c A B : ℕ) → 0 < c → 0 < L → A ≡ B + G → A * L + n * c ≡ p * c + B * L → g ≡ p - n → (G * L ≡ g * c) × (p ≡ n + g)
part G g p n L c A B C P e h k =
    let a : A * L ≡ B * L + G * L = ap (λ (z : ℕ). z * L) e ∙ add-mul B G L in
    let le : n ≤ p = le_of_mul-le-mul_right (omega arith) C in
    let x : p ≡ n + g = omega arith in
    let y : p * c ≡ n * c + g * c = ap (λ (z : ℕ). z * c) x ∙ add-mul n g c in
    (omega arith, x)

pub rounded-same : (f : Format) (x : Float) (P N c p n L : ℕ) → 0 < c → 0 < L → Rounded f x P N c → P * L + n * c ≡ p * c + N * L → Rounded f x p n L
rounded-same f x P N c p n L C D (false, G, e, k) h =
    let z = part G (p - n) p n L c P N C D k h refl in
    (false, p - n, e ∙ round_same f false G c (p - n) L C D z.0, z.1)
rounded-same f x P N c p n L C D (true, G, e, k) h =
    let z = part G (n - p) n p L c N P C D k (omega arith) refl in
    (true, n - p, e ∙ round_same f true G c (n - p) L C D z.0, z.1)

pub rounded_shift : (f : Format) (x : Float) (p n c p' n' : ℕ) → Rounded f x p n c → p + n' ≡ p' + n → Rounded f x p' n' c
rounded_shift f x p n c p' n' (r, g, e, k) h = (r, g, e, sgn_same r g p n p' n' k h)

-- ---- the sum
abbrev ps : Bool → ℕ → ℕ
ps s a = cond s 0 a

abbrev ns : Bool → ℕ → ℕ
ns s a = cond s a 0

sum-rounded : (f : Format) (s : Bool) (a : ℕ) (t : Bool) (b c : ℕ) → Rounded f (sum f s a t b c) (ps s a + ps t b) (ns s a + ns t b) c
unfolding sum
sum-rounded f false a false b c = (false, a + b, refl, omega arith)
sum-rounded f true a true b c = (true, a + b, refl, omega arith)
sum-rounded f false a true b c = by_cond (λ (x : Float). Rounded f x (a + 0) (0 + b) c) (ltb a b) (round f true (b - a) c) (round f false (a - b) c)
    (λ e. (true, b - a, refl, let z = ltb-true a b e in omega arith))
    (λ e. (false, a - b, refl, let z = ltb-false a b e in omega arith))
sum-rounded f true a false b c = go (ltb a b) (ltb b a) (ltb→lt a b) (nltb→le a b) (ltb→lt b a) (nltb→le b a)
  where
    go : (q r : Bool) → (T q → a < b) → (T (not q) → b ≤ a) → (T r → b < a) → (T (not r) → a ≤ b) → Rounded f (cond q (round f false (b - a) c) (round f r (a - b) c)) (0 + b) (a + 0) c
    go true r x y u v = (false, b - a, refl, let z = x tt in omega arith)
    go false true x y u v = (true, a - b, refl, let z = y tt in omega arith)
    go false false x y u v = (false, a - b, refl, let z = y tt in let w = v tt in omega arith)

-- an operand, put over the common denominator
over_plain : (A L g de dd p n : ℕ) → A * L ≡ g * de → p ≡ n + g → A * dd * L + n * (de * dd) ≡ p * (de * dd) + 0 * L
over_plain A L g de dd p n h e =
    let x : A * dd * L ≡ g * (de * dd) = mul_right_comm A dd L ∙ ap (λ (z : ℕ). z * dd) h ∙ mul_assoc g de dd in
    let y : p * (de * dd) ≡ n * (de * dd) + g * (de * dd) = ap (λ (z : ℕ). z * (de * dd)) e ∙ add-mul n g (de * dd) in
    let z = zero-mul L in
    omega arith

over : (s : Bool) (A L g de dd p n : ℕ) → A * L ≡ g * de → Sgn s g p n → ps s (A * dd) * L + n * (de * dd) ≡ p * (de * dd) + ns s (A * dd) * L
over false A L g de dd p n h e = over_plain A L g de dd p n h e
over true A L g de dd p n h e = let z = over_plain A L g de dd n p h e in omega arith

both : (P P' N N' p p' n n' L c : ℕ) → P * L + n * c ≡ p * c + N * L → P' * L + n' * c ≡ p' * c + N' * L → (P + P') * L + (n + n') * c ≡ (p + p') * c + (N + N') * L
both P P' N N' p p' n n' L c h k =
    let a = add-mul P P' L in
    let b = add-mul n n' c in
    let d = add-mul p p' c in
    let e = add-mul N N' L in
    omega arith

pub add-rounded : (f : Format) (x y : Float) (p n p' n' : ℕ) → Counts f x p n → Counts f y p' n' → Rounded f (add f x y) (p + p') (n + n') (2 ^ low f)
unfolding add
add-rounded f nan y p n p' n' a b = absurd a
add-rounded f (inf s) y p n p' n' a b = absurd a
add-rounded f (fin s m e) nan p n p' n' a b = absurd b
add-rounded f (fin s m e) (inf t) p n p' n' a b = absurd b
add-rounded f (fin s m e) (fin t k d) p n p' n' a b =
    let A = m * up e in
    let B = k * up d in
    let L = 2 ^ low f in
    let c = down e * down d in
    rounded-same f (sum f s (A * down d) t (B * down e) c) (ps s (A * down d) + ps t (B * down e)) (ns s (A * down d) + ns t (B * down e)) c (p + p') (n + n') L (mul-pos (down_pos e) (down_pos d)) (pow_pos (low f))
    (sum-rounded f s (A * down d) t (B * down e) c)
    (both (ps s (A * down d)) (ps t (B * down e)) (ns s (A * down d)) (ns t (B * down e)) p p' n n' L c
    (over s A L a.0 (down e) (down d) p n a.1 a.2)
    (subst (λ (z : ℕ). ps t (B * down e) * L + n' * z ≡ p' * z + ns t (B * down e) * L) (mul_comm (down d) (down e)) (over t B L b.0 (down d) (down e) p' n' b.1 b.2)))

pub neg_counts : (f : Format) (x : Float) (p n : ℕ) → Counts f x p n → Counts f (neg x) n p
unfolding neg
neg_counts f nan p n a = absurd a
neg_counts f (inf s) p n a = absurd a
neg_counts f (fin true m e) p n a = a
neg_counts f (fin false m e) p n a = a

pub sub_rounded : (f : Format) (x y : Float) (p n p' n' : ℕ) → Counts f x p n → Counts f y p' n' → Rounded f (sub f x y) (p + n') (n + p') (2 ^ low f)
unfolding sub
sub_rounded f x y p n p' n' a b = add-rounded f x (neg y) p n n' p' a (neg_counts f y p' n' b)

-- ---- the quotient by a divisor above zero
pub div_is : (f : Format) (s : Bool) (m : ℕ) (e : ℤ) (k : ℕ) (d : ℤ) → 0 < k → div f (fin s m e) (fin false k d) ≡ round f s (m * up e * down d) (k * up d * down e)
unfolding div
div_is f s m e zero d K = absurd (lt_irrefl 0 K)
div_is f true m e (suc k) d K = ap (λ (b : Bool). cond b (cond (eqb m 0) nan (inf true)) (round f true (m * up e * down d) (suc k * up d * down e))) (lib.Dec.eqb-suc-zero k)
div_is f false m e (suc k) d K = ap (λ (b : Bool). cond b (cond (eqb m 0) nan (inf false)) (round f false (m * up e * down d) (suc k * up d * down e))) (lib.Dec.eqb-suc-zero k)

gap : (g p n : ℕ) → n ≡ p + g → n < p → ⊥
gap g p n e h = omega arith

grow : (g p n : ℕ) → p ≡ n + g → n < p → 0 < g
grow g p n e h = omega arith

cross : (a b c d g j L : ℕ) → a * L ≡ g * c → b * L ≡ j * d → a * d * j * L ≡ g * (b * c) * L
cross a b c d g j L u v =
    let x : a * d * j * L ≡ a * L * (j * d) = simp (mul_assoc, mul_comm, mul_left_comm) in
    let y : g * c * (b * L) ≡ g * (b * c) * L = simp (mul_assoc, mul_comm, mul_left_comm) in
    x ∙ ap (λ (z : ℕ). z * (j * d)) u ∙ ap (λ (z : ℕ). g * c * z) (sym v) ∙ y

-- x / y for y = (p' - n') units above zero
pub div_rounded : (f : Format) (x y : Float) (p n p' n' : ℕ) → n' < p' → Counts f x p n → Counts f y p' n' → Rounded f (div f x y) p n (p' - n')
div_rounded f nan y p n p' n' h a b = absurd a
div_rounded f (inf s) y p n p' n' h a b = absurd a
div_rounded f (fin s m e) nan p n p' n' h a b = absurd b
div_rounded f (fin s m e) (inf t) p n p' n' h a b = absurd b
div_rounded f (fin s m e) (fin true k d) p n p' n' h a b = absurd (gap b.0 p' n' b.2 h)
div_rounded f (fin s m e) (fin false k d) p n p' n' h (g, u, x) (j, v, y) =
    let J : 0 < j = grow j p' n' y h in
    let L = 2 ^ low f in
    let K : 0 < k = first_pos k (up d) (first_pos (k * up d) L (subst (λ (z : ℕ). 0 < z) (sym v) (mul-pos J (down_pos d)))) in
    let eq : p' - n' ≡ j = omega arith in
    let G : 0 < p' - n' = omega arith in (
      s,
      g,
      div_is f s m e k d K
          ∙ round_same f s (m * up e * down d) (k * up d * down e) g (p' - n') (mul-pos (mul-pos K (up_pos d)) (down_pos e)) G
          (subst (λ (z : ℕ). m * up e * down d * z ≡ g * (k * up d * down e)) (sym eq)
          (eq_of_mul-eq-mul_right L (pow_pos (low f)) (m * up e * down d * j) (g * (k * up d * down e)) (cross (m * up e) (k * up d) (down e) (down d) g j L u v))),
      x,
    )

-- ---- a value of the format is its own rounding
value-counts : (f : Format) (x : Float) (s : Bool) (g p n : ℕ) → HasValue x s g (2 ^ low f) → Sgn s g p n → Counts f x p n
value-counts f nan s g p n h k = absurd h
value-counts f (inf t) s g p n h k = absurd h
value-counts f (fin t m e) s g p n h k = (g, h.1, subst (λ (b : Bool). Sgn b g p n) (sym h.0) k)

pub value-count : (f : Format) (x : Float) (g : ℕ) → HasValue x false g (2 ^ low f) → Counts f x g 0
value-count f x g h = value-counts f x false g g 0 h (sym (zero-add g))

-- m * 2 ^ j units are below the first count that is no float
pub under : (f : Format) (m : ℕ) (e : ℤ) (j : ℕ) → m * up e * 2 ^ low f ≡ m * 2 ^ j * down e → m * up e < 2 ^ suc (emax f) * down e → m * 2 ^ j < 2 ^ (low f + suc (emax f))
under f m e j h l =
    let L = 2 ^ low f in
    lt_of_mul-lt-mul_right (down e)
    (subst (λ (z : ℕ). z < 2 ^ (low f + suc (emax f)) * down e) h
    (subst (λ (z : ℕ). m * up e * L < z) (mul_right_comm (2 ^ suc (emax f)) (down e) L ∙ ap (λ (z : ℕ). z * down e) (mul_comm (2 ^ suc (emax f)) L ∙ sym (pow-add 2 (low f) (suc (emax f)))))
    (mul-lt-mul_of_pos_right l (pow_pos (low f)))))

round_self : (f : Format) (s : Bool) (m : ℕ) (e : ℤ) (g : ℕ) → T (fits f (fin s m e)) → m * up e * 2 ^ low f ≡ g * down e → HasValue (round f s g (2 ^ low f)) s g (2 ^ low f)
round_self f s m e g h u =
    let j = placed f s m e h in
    let L = 2 ^ low f in
    let q = m * 2 ^ j.0 in
    let same : g ≡ q = eq_of_mul-eq-mul_right (down e) (down_pos e) g q (sym u ∙ j.1) in
    round_exact f s g L m j.0 (pow_pos (low f)) j.2 (under f m e j.0 j.1 j.3) (ap (λ (z : ℕ). z * L) same)

pub self : (f : Format) (y : Float) (p n : ℕ) → T (fits f y) → Counts f y p n → (w : Float) × Rounded f w p n (2 ^ low f) × Counts f w p n
self f nan p n h a = absurd a
self f (inf t) p n h a = absurd a
self f (fin t m e) p n h (g, u, k) = (round f t g (2 ^ low f), (t, g, refl, k), value-counts f (round f t g (2 ^ low f)) t g p n (round_self f t m e g h u) k)

module _ (f : Format) (x y : Float) (p n c p' n' : ℕ) (C : 0 < c) (a : Rounded f x p n c) (h : T (fits f y)) (b : Counts f y p' n') where
  -- a bound that the format holds survives the rounding
  pub rounded_le : p * 2 ^ low f + n' * c ≤ p' * c + n * 2 ^ low f → T (le x y)
  rounded_le l =
      let w = self f y p' n' h b in
      le-trans-float x w.0 y (rounded_mono f x w.0 p n c p' n' (2 ^ low f) C (pow_pos (low f)) a w.1 l) (counts→le f w.0 y p' n' p' n' w.2 b (omega arith))

  pub le_rounded : p' * c + n * 2 ^ low f ≤ p * 2 ^ low f + n' * c → T (le y x)
  le_rounded l =
      let w = self f y p' n' h b in
      le-trans-float y w.0 x (counts→le f y w.0 p' n' p' n' b w.2 (omega arith)) (rounded_mono f w.0 x p' n' (2 ^ low f) p n c (pow_pos (low f)) C w.1 a l)

pub rounded-fits : (f : Format) (x : Float) (p n c : ℕ) → Rounded f x p n c → T (fits f x)
rounded-fits f x p n c a = subst (λ (z : Float). T (fits f z)) (sym a.2) (round-fits f a.0 a.1 c)

-- what lies between two finite floats is finite
pub between_finite : (x y z : Float) → T (finite x) → T (finite z) → T (le x y) → T (le y z) → T (finite y)
unfolding le
between_finite nan y z p q h k = absurd p
between_finite (inf s) y z p q h k = absurd p
between_finite (fin s m e) nan z p q h k = absurd h
between_finite (fin s m e) (inf true) z p q h k = absurd h
between_finite (fin s m e) (inf false) nan p q h k = absurd q
between_finite (fin s m e) (inf false) (inf t) p q h k = absurd q
between_finite (fin s m e) (inf false) (fin t n d) p q h k = absurd k
between_finite (fin s m e) (fin u n d) z p q h k = tt

-- where the exact result is a value of the format, the rounded one is it
pub rounded_exact : (f : Format) (x y : Float) (p n c p' n' : ℕ) → 0 < c → Rounded f x p n c → T (fits f y) → Counts f y p' n' → p * 2 ^ low f + n' * c ≡ p' * c + n * 2 ^ low f → Counts f x p' n'
rounded_exact f x y p n c p' n' C r Y i e =
    let a : T (le x y) = rounded_le f x y p n c p' n' C r Y i (le_of_eq e) in
    let b : T (le y x) = le_rounded f x y p n c p' n' C r Y i (le_of_eq (sym e)) in
    let F = counts_finite f y p' n' i in
    let o = counts_of f x (record { held = rounded-fits f x p n c r; finite = between_finite y x y F F b a }) in
    let u = le→counts f x y o.0 o.1 p' n' o.2 i a in
    let w = le→counts f y x p' n' o.0 o.1 i o.2 b in
    counts_same f x o.0 o.1 p' n' o.2 (omega arith)
