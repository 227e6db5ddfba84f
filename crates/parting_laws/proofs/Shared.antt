-- Squares of which no two share one root are in the order of their roots: the nearest of them is the nearest by roots.
use Prim.Native.Nat.{ℕ, zero, suc, ◌+◌, ◌<◌}
use mathlib.Core.Path.{◌≡◌, refl, ap, ap₂, sym, subst, ◌∙◌}
use mathlib.Core.Bool.{Bool, true, false, true≢false, ◌&&◌, ◌||◌}
use mathlib.Core.Logic.{◌⊎◌, inl, inr}
use native.Mathlib.Numerals.{add-one}
use native.Mathlib.Omega.{arith}
use lib.Dec.{T}
use lib.Ieee.{Float, nan, inf, fin, binary64, lt, le, eq, mul, of_bits, fits}
use lib.Ieee.Fits.{inf-fits}
use Rattle.model.specs.declared.Edition.TheVariants.{First}
use Rattle.model.specs.Lists.{best_from}
use Rattle.model.specs.Real.{◌⊗◌, infinity}
use Rattle.model.specs.Numbers.{sqrt_of}
use Rattle.model.specs.Association.{near, nearest_of}
use Rattle.list_laws.proofs.Bools.{by_bool, by_cond, both_ways, no_pass, and_both, T_true, true_T}
use Rattle.float_laws.proofs.Order.{lt→le}
use Rattle.real_laws.proofs.Roots.Monotone.{sqrt_mono}
use Rattle.real_laws.proofs.Roots.Apart.{nearly_one}
use Rattle.association_laws.specs.Search.{Square, Found}
use Rattle.association_laws.proofs.Search.{from-nought, root_order, measure_apart, found_none, found_taken, found_farther}
use Rattle.parting_laws.specs.Parting.{shared_root}

-- ---- two squares

left_out : (a b : Bool) → (a || b) ≡ true → a ≡ false → b ≡ true
left_out true b h e = absurd (true≢false e)
left_out false b h e = h

-- roots of squares in order that are not in order are equal
roots-equal : (x y : Float) → Square x → T (fits binary64 y) → lt x y ≡ true → lt (sqrt_of x) (sqrt_of y) ≡ false → eq (sqrt_of x) (sqrt_of y) ≡ true
unfolding le
roots-equal x y X Y h e =
    let l = true_T (lt x y) h in
    left_out (lt (sqrt_of x) (sqrt_of y)) (eq (sqrt_of x) (sqrt_of y))
    (T_true (le (sqrt_of x) (sqrt_of y)) (sqrt_mono x y X.held Y (from-nought x y X.low l) (lt→le x y l))) e

-- squares in order that do not share one root have roots in order
pub roots-apart : (x y : Float) → Square x → T (fits binary64 y) → shared_root x y ≡ false → lt x y ≡ true → lt (sqrt_of x) (sqrt_of y) ≡ true
roots-apart x y X Y none h = by_bool (lt (sqrt_of x) (sqrt_of y)) (λ e. e) (λ e. absurd (true≢false (sym (and_both (lt x y) _ h (roots-equal x y X Y h e)) ∙ none)))

-- a square below infinity has a root below infinity's
shrunk : infinity ⊗ nearly_one ≡ infinity
unfolding mul of_bits
shrunk = refl

pub root_finite : (x : Float) → Square x → lt x infinity ≡ true → lt (sqrt_of x) (sqrt_of infinity) ≡ true
root_finite x X h = measure_apart First x infinity X (inf-fits binary64 false) h (ap (lt x) shrunk ∙ h)

infinity-last : (y : Float) → lt infinity y ≡ true → ⊥
unfolding lt
infinity-last nan h = true≢false (sym h)
infinity-last (inf true) h = true≢false (sym h)
infinity-last (inf false) h = true≢false (sym h)
infinity-last (fin s m e) h = true≢false (sym h)

-- ---- the nearest of n squares

-- what it holds: infinity, or the square of the line found
pub record Origin (s : ℕ → Float) (n line : ℕ) (q : Float) : Type 0 where
  pub known : (q ≡ infinity) ⊎ ((line < n) × (q ≡ s line))

module _ (s : ℕ → Float) (S : (k : ℕ) → Square (s k)) where
  abbrev roots : ℕ → Float
  roots k = sqrt_of (s k)

  -- the nearest by squares, in the words of the search by roots
  pub record Both (n line : ℕ) (q : Float) : Type 0 where
    pub found : Found First roots n line q
    pub origin : Origin s n line q

  module _ (n line : ℕ) (q : Float) (b : Both n line q) (none : (k : ℕ) → k < n → shared_root (s n) (s k) ≡ false) where
    less : lt (s n) q ≡ true → lt (sqrt_of (s n)) (sqrt_of q) ≡ true
    less h = elim b.origin.known [
      | inl e ↦ subst (λ x. lt (sqrt_of (s n)) (sqrt_of x) ≡ true) (sym e) (root_finite (s n) (S n) (subst (λ x. lt (s n) x ≡ true) e h))
      | inr o ↦ subst (λ x. lt (sqrt_of (s n)) (sqrt_of x) ≡ true) (sym o.1)
          (roots-apart (s n) (s line) (S n) (S line).held (none line o.0) (subst (λ x. lt (s n) x ≡ true) o.1 h))
    ]

    both_taken : lt (s n) q ≡ true → Both (n + 1) n (s n)
    both_taken h = record {
      found = found_taken First roots n line q (s n) b.found (S n) refl (less h);
      origin = record { known = inr (omega arith, refl) };
    }

    both_passed : lt (s n) q ≡ false → Both (n + 1) line q
    both_passed h = record {
      found = found_farther First roots n line q (s n) b.found (S n) refl h;
      origin = record { known = elim b.origin.known [ inl e ↦ inl e | inr o ↦ inr (omega (arith, o.0), o.1) ] };
    }

  -- THE LAW
  pub both : (n : ℕ) → ((k l : ℕ) → k < n → l < n → shared_root (s k) (s l) ≡ false) → Both n (nearest_of s n).line (nearest_of s n).distance
  unfolding best_from
  both zero none = record { found = found_none First roots; origin = record { known = inl refl } }
  both (suc n) none =
      let b = both n (λ k l h g. none k l (omega arith) (omega arith)) in
      let last : (k : ℕ) → k < n → shared_root (s n) (s k) ≡ false = λ k h. none n k (omega arith) (omega arith) in
      let f = nearest_of s n in
      subst (λ m. Both m (nearest_of s (suc n)).line (nearest_of s (suc n)).distance) (add-one n)
      (by_cond (λ v. Both (n + 1) v.line v.distance) (lt (s n) f.distance) (near n (s n)) f
      (both_taken n f.line f.distance b last)
      (both_passed n f.line f.distance b last))

-- ---- two plans on one line

-- x and y are what their searches hold: their order is that of their roots, where their own squares do not share one
pub same-order : (s t : ℕ → Float) → ((k : ℕ) → Square (s k)) → ((k : ℕ) → Square (t k)) → (n l m : ℕ) (x y : Float) → T (fits binary64 x) → T (fits binary64 y)
    → Origin s n l x → Origin t n m y → (l < n → m < n → shared_root (s l) (t m) ≡ false) → lt (sqrt_of x) (sqrt_of y) ≡ lt x y
same-order s t S U n l m x y X Y o u none = both_ways (lt (sqrt_of x) (sqrt_of y)) (lt x y) down up
  where
    down : lt (sqrt_of x) (sqrt_of y) ≡ true → lt x y ≡ true
    down h = by_bool (lt x y) (λ e. e) (λ e. absurd (true≢false (sym h ∙ root_order x y X Y e)))

    own : l < n → x ≡ s l → lt x y ≡ true → lt (sqrt_of x) (sqrt_of y) ≡ true
    own inside e h =
        let X' : Square x = subst Square (sym e) (S l) in
        elim u.known [
          | inl f ↦ subst (λ v. lt (sqrt_of x) (sqrt_of v) ≡ true) (sym f) (root_finite x X' (subst (λ v. lt x v ≡ true) f h))
          | inr f ↦ roots-apart x y X' Y (ap₂ shared_root e f.1 ∙ none inside f.0) h
        ]

    up : lt x y ≡ true → lt (sqrt_of x) (sqrt_of y) ≡ true
    up h = elim o.known [
      | inl e ↦ absurd (infinity-last y (subst (λ v. lt v y ≡ true) e h))
      | inr e ↦ own e.0 e.1 h
    ]
