-- One turn of `near_root`'s loop: a root with a remainder, and the next pair of digits.
use mathlib.Core.Path.{◌≡◌, refl, sym, ap, ◌∙◌, subst}
use Prim.Native.Nat.{ℕ, ◌+◌, ◌-◌, ◌*◌, ◌/◌, ◌%◌, ◌^◌, ◌≤◌, ◌<◌}
use native.Mathlib.Nat.{lt_of_lt_of_le, mul_assoc, mul_comm, mul-one, add-mul, pow-suc}
use native.Mathlib.Numerals.{add-one}
use native.Mathlib.Omega.{arith}
use mathlib.Core.Bool.{cond}
use borrow.Author.Tests.{leb-true, leb-false}
use lib.Dec.{leb}
use lib.Pow.{pow_mono}
use Rattle.list_laws.proofs.Bools.{by_cond}
use Rattle.real_laws.proofs.Roots.Whole.{IsRoot, square-add, square_suc, square-twice}

-- After i turns `root` is the whole root of the number that the pairs read so far make, and `rem` is what is left of it:
-- that number, root * root + rem, and the pairs still to come, are a * 2 ^ 10 moved up by i pairs.
pub record Turns (a rest rem root i : ℕ) : Type 0 where
  pub count : i ≤ 53
  pub small : root < 2 ^ i
  pub left : rem ≤ 2 * root
  pub short : rest < 2 ^ 64
  pub whole : (root * root + rem) * 2 ^ 64 + rest ≡ a * 2 ^ 10 * 4 ^ i

-- what the turn's code works out
abbrev pub more : ℕ → ℕ → ℕ
more rest rem = (rem * 2 ^ 2) % 2 ^ 64 + rest / 2 ^ 62

abbrev pub take : ℕ → ℕ
take root = (root * 2 ^ 2) % 2 ^ 64 + 1

-- one pair further
record Next (a root i : ℕ) : Type 0 where
  small : root < 2 ^ 52
  twice : 2 ^ (i + 1) ≡ 2 * 2 ^ i
  fourfold : a * 2 ^ 10 * 4 ^ (i + 1) ≡ 4 * (a * 2 ^ 10 * 4 ^ i)
  even : (root + root) * (root + root) ≡ 4 * (root * root)

next : (a rest rem root i : ℕ) → Turns a rest rem root i → i < 53 → Next a root i
next a rest rem root i t l =
    let P = a * 2 ^ 10 in
    let x : P * 4 ^ (i + 1) ≡ P * 4 ^ i * 4 = ap (λ (j : ℕ). P * 4 ^ j) (add-one i) ∙ ap (λ (y : ℕ). P * y) (pow-suc 4 i) ∙ sym (mul_assoc P (4 ^ i) 4) in
    let y : 2 ^ (i + 1) ≡ 2 ^ i * 2 = ap (λ (j : ℕ). 2 ^ j) (add-one i) ∙ pow-suc 2 i in
    let l' : i ≤ 52 = omega arith in
    record {
      small = lt_of_lt_of_le t.small (pow_mono l');
      twice = omega arith;
      fourfold = omega arith;
      even = square-twice root;
    }

-- the next digit is d
pub record Step (a rest rem root i d : ℕ) : Type 0 where
  pub less : d * take root ≤ more rest rem
  pub fits : (root * 2 ^ 1) % 2 ^ 64 + d < 2 ^ 56
  pub then : Turns a ((rest * 2 ^ 2) % 2 ^ 64) (more rest rem - d * take root) ((root * 2 ^ 1) % 2 ^ 64 + d) (i + 1)

module _ (a rest rem root i : ℕ) (t : Turns a rest rem root i) (l : i < 53) where
  -- the sums fit, with room
  pub more-fits : more rest rem < 2 ^ 56
  more-fits = let n = next a rest rem root i t l in omega arith

  pub take-fits : take root < 2 ^ 56
  take-fits = let n = next a rest rem root i t l in omega arith

  root_fits : (root * 2 ^ 1) % 2 ^ 64 + 1 < 2 ^ 56
  root_fits = let n = next a rest rem root i t l in omega arith

  -- `more` and `take` with nothing shifted out
  more_is : more rest rem ≡ 4 * rem + rest / 2 ^ 62
  more_is = let n = next a rest rem root i t l in omega arith

  take_is : take root ≡ root + root + (root + root) + 1
  take_is = let n = next a rest rem root i t l in omega arith

  -- the new root r, and what is left, m: r * r + m is what was read before, and the next pair
  on : (r m : ℕ) → r ≤ root + root + 1 → m ≤ 2 * r → r * r + m ≡ 4 * (root * root + rem) + rest / 2 ^ 62 → Turns a ((rest * 2 ^ 2) % 2 ^ 64) m r (i + 1)
  on r m h k e =
      let n = next a rest rem root i t l in
      record {
        count = omega arith;
        small = double root r (2 ^ i) (2 ^ (i + 1)) t.small n.twice h;
        left = k;
        short = cut (rest * 2 ^ 2);
        whole = ap (λ (z : ℕ). z * 2 ^ 64 + (rest * 2 ^ 2) % 2 ^ 64) e ∙ moved (root * root + rem) rest (a * 2 ^ 10 * 4 ^ i) t.short t.whole ∙ sym n.fourfold;
      }
    where
      double : (root r p q : ℕ) → root < p → q ≡ 2 * p → r ≤ root + root + 1 → r < q
      double root r p q a b c = omega arith

      cut : (z : ℕ) → z % 2 ^ 64 < 2 ^ 64
      cut z = omega arith

      moved : (s rest x : ℕ) → rest < 2 ^ 64 → s * 2 ^ 64 + rest ≡ x → (4 * s + rest / 2 ^ 62) * 2 ^ 64 + (rest * 2 ^ 2) % 2 ^ 64 ≡ 4 * x
      moved s rest x h e = omega arith

  -- the next digit is d where what it takes is there, and what is left is not too much
  digit : (d : ℕ) → d ≤ 1 → d * d ≡ d → d * take root ≤ more rest rem → more rest rem ≤ d * take root + 2 * (root + root + d) → Step a rest rem root i d
  digit d o s h k =
      let n = next a rest rem root i t l in
      let e : (root * 2 ^ 1) % 2 ^ 64 + d ≡ root + root + d = let r = n.small in omega arith in
      record {
        less = h;
        fits = let f = root_fits in omega arith;
        then = subst (λ (r : ℕ). Turns a ((rest * 2 ^ 2) % 2 ^ 64) (more rest rem - d * take root) r (i + 1)) (sym e)
            (on (root + root + d) (more rest rem - d * take root) (omega arith) (most (more rest rem) (d * take root) (root + root + d) k)
            (sum rem (rest / 2 ^ 62) (more rest rem) (d * take root) ((root + root) * d) (d * d) d ((root + root) * (root + root)) (root * root) h more_is
            (times d (root + root) (take root) take_is) s n.even (square-add (root + root) d)));
      }
    where
      most : (m k r : ℕ) → m ≤ k + 2 * r → m - k ≤ 2 * r
      most m k r h = omega arith

      times : (d r k : ℕ) → k ≡ r + r + 1 → d * k ≡ 2 * (r * d) + d
      times d r k e =
          let a : d * k ≡ (r + r + 1) * d = mul_comm d k ∙ ap (λ (z : ℕ). z * d) e in
          let b = add-mul (r + r) 1 d in
          let c = add-mul r r d in
          omega arith

      sum : {o : ℕ} (rem c m k x y d v s : ℕ) → k ≤ m → m ≡ 4 * rem + c → k ≡ 2 * x + d → y ≡ d → v ≡ 4 * s → o ≡ v + 2 * x + y → o + (m - k) ≡ 4 * (s + rem) + c
      sum rem c m k x y d v s a b e f g h = omega arith

pub step : (a rest rem root i d : ℕ) → Turns a rest rem root i → i < 53 → d ≡ cond (leb (take root) (more rest rem)) 1 0 → Step a rest rem root i d
step a rest rem root i d t l e =
    let m = more_is a rest rem root i t l in
    let k = take_is a rest rem root i t l in
    let b = t.left in
    let s = t.short in
    subst (Step a rest rem root i) (sym e)
    (by_cond (Step a rest rem root i) (leb (take root) (more rest rem)) 1 0
    (λ q. let h = leb-true (take root) (more rest rem) q in digit a rest rem root i t l 1 (omega arith) refl (omega arith) (omega arith))
    (λ q. let h = leb-false (take root) (more rest rem) q in digit a rest rem root i t l 0 (omega arith) refl (omega arith) (omega arith)))

-- ---- at the end
pub last : (a rest rem root i : ℕ) → Turns a rest rem root i → 53 ≤ i → root * root + rem ≡ a * 2 ^ 52
last a rest rem root i t l =
    let e : i ≡ 53 = let c = t.count in omega arith in
    let w : (root * root + rem) * 2 ^ 64 + rest ≡ a * 2 ^ 10 * 4 ^ 53 = t.whole ∙ ap (λ (j : ℕ). a * 2 ^ 10 * 4 ^ j) e in
    let s = t.short in
    omega arith

pub last_root : (a rest rem root i : ℕ) → Turns a rest rem root i → 53 ≤ i → IsRoot (a * 2 ^ 52) root
last_root a rest rem root i t l =
    let e = last a rest rem root i t l in
    let s = square_suc root in
    let b = t.left in
    (omega arith, omega arith)

pub last_fits : (a rest rem root i : ℕ) → Turns a rest rem root i → root + 1 < 2 ^ 56
last_fits a rest rem root i t = let h : root < 2 ^ 53 = lt_of_lt_of_le t.small (pow_mono t.count) in omega arith

pub start : (a : ℕ) → a < 2 ^ 54 → Turns a ((a * 2 ^ 10) % 2 ^ 64) 0 0 0
start a h = record { count = omega arith; small = omega arith; left = omega arith; short = omega arith; whole = let e = mul-one (a * 2 ^ 10) in omega arith }
