-- No line is nearer than the one that a plan is associated with, whatever its distances are; it is the first such line but for NaNs, and its distance is the
-- one kept beside it, unless that is a NaN. That the distances are the paper's, and no NaN, is proved above (`demand3_laws/proofs/Paper.antt`).
use Prim.Native.Nat.{ℕ, zero, suc, ◌<◌}
use mathlib.Core.Path.{◌≡◌, refl, sym, ap, ◌∙◌}
use mathlib.Core.Logic.{◌⊎◌, inl, inr}
use mathlib.Core.Bool.{Bool, true, false, cond, true≢false}
use native.Mathlib.Omega.{arith}
use lib.Ieee.{Float, nan, inf, fin, lt, is_nan}
use Rattle.model.specs.Real.{infinity}
use Rattle.model.specs.Association.{Request, line_count, distance_to, Near, near, nearest_of, association, line_of, nearer}
use Rattle.model.specs.Lists.{best_from}
use Rattle.list_laws.proofs.Best.{best_all, best_least}
use Rattle.niching_laws.specs.Nearest.{NearestLine}
use Rattle.float_laws.proofs.Compared.{lt_self, lt_down, lt_past, below_nan}

-- ---- what is not below infinity is a NaN or infinity

not-below-top : (x y : Float) → lt x infinity ≡ false → lt y infinity ≡ false → lt y x ≡ false
unfolding lt is_nan
not-below-top nan y h k = below_nan y nan refl
not-below-top (inf true) y h k = absurd (true≢false h)
not-below-top (inf false) y h k = k
not-below-top (fin s m e) y h k = absurd (true≢false h)

top_or_nan : (x : Float) → lt x infinity ≡ false → is_nan x ≡ false → infinity ≡ x
unfolding lt is_nan
top_or_nan nan h k = absurd (true≢false k)
top_or_nan (inf true) h k = absurd (true≢false h)
top_or_nan (inf false) h k = refl
top_or_nan (fin s m e) h k = absurd (true≢false h)

-- ---- the search over n lines with distances d

module _ (d : ℕ → Float) where
  abbrev own : ℕ → Near
  own l = near l (d l)

  -- no distance is below the one found
  nearest_of-least : (n j : ℕ) → j < n → lt (d j) (nearest_of d n).distance ≡ false
  nearest_of-least = best_least nearer (λ a. lt_self a.distance) (λ a b c. lt_down a.distance b.distance c.distance) (near 0 infinity) own

  -- what is found: nothing below infinity, so line 0; or a line with its distance
  abbrev Met : Near → Type 0
  Met a = ((a.line ≡ 0) × (a.distance ≡ infinity)) ⊎ (a.distance ≡ d a.line)

  nearest_of-met : (n : ℕ) → Met (nearest_of d n)
  nearest_of-met n = best_all nearer Met (near 0 infinity) own n (inl (refl, refl)) (λ t l. inr refl)

  -- the distance found is that of the line found, unless all are NaN or infinite and line 0's is a NaN
  nearest_of-distance : (n : ℕ) → 0 < n → is_nan (d (nearest_of d n).line) ≡ false → (nearest_of d n).distance ≡ d (nearest_of d n).line
  nearest_of-distance n h v = go (nearest_of-met n)
    where
      go : Met (nearest_of d n) → (nearest_of d n).distance ≡ d (nearest_of d n).line
      go (inl t) =
          let none : lt (d 0) infinity ≡ false = ap (lt (d 0)) (sym t.1) ∙ nearest_of-least n 0 h in
          let real : is_nan (d 0) ≡ false = ap (λ l. is_nan (d l)) (sym t.0) ∙ v in
          t.1 ∙ top_or_nan (d 0) none real ∙ ap d (sym t.0)
      go (inr t) = t

  -- no line is nearer than the one found
  nearest_of-nearest : (n : ℕ) (j : ℕ) → j < n → lt (d j) (d (nearest_of d n).line) ≡ false
  nearest_of-nearest n j h = go (nearest_of-met n)
    where
      go : Met (nearest_of d n) → lt (d j) (d (nearest_of d n).line) ≡ false
      go (inl t) =
          let at : (i : ℕ) → i < n → lt (d i) infinity ≡ false = λ i k. ap (lt (d i)) (sym t.1) ∙ nearest_of-least n i k in
          ap (λ l. lt (d j) (d l)) t.0 ∙ not-below-top (d 0) (d j) (at 0 (omega arith)) (at j h)
      go (inr t) = ap (lt (d j)) (sym t) ∙ nearest_of-least n j h

  -- every earlier line is farther, where its distance is no NaN
  nearest_of-first : (n j : ℕ) → j < (nearest_of d n).line → is_nan (d j) ≡ false → lt (d (nearest_of d n).line) (d j) ≡ true
  unfolding best_from
  nearest_of-first zero j h v = absurd (omega arith)
  nearest_of-first (suc n) j h v = go (lt (d n) (nearest_of d n).distance) refl h (λ k. nearest_of-first n j k v)
    where
      go : (b : Bool) → lt (d n) (nearest_of d n).distance ≡ b → j < (cond b (near n (d n)) (nearest_of d n)).line
          → (j < (nearest_of d n).line → lt (d (nearest_of d n).line) (d j) ≡ true) → lt (d (cond b (near n (d n)) (nearest_of d n)).line) (d j) ≡ true
      go true e k ih = lt_past (d n) (nearest_of d n).distance (d j) e (nearest_of-least n j k) v
      go false e k ih = ih k

  nearest_of-line : (n : ℕ) → 0 < n → NearestLine d n (nearest_of d n).line (nearest_of d n).distance
  nearest_of-line n h =
      record {
        inside = best_all nearer (λ a. a.line < n) (near 0 infinity) own n h (λ t l. l);
        nearest = nearest_of-nearest n;
        first = nearest_of-first n;
        distance = nearest_of-distance n h;
      }

-- ---- a request's plans

module _ (r : Request) (p : ℕ) (some : 0 < line_count r) where
  -- the line is the first of those that no line is nearer than
  pub association-nearest : NearestLine (distance_to r p) (line_count r) (line_of r p) (association r p).distance
  unfolding association
  association-nearest = nearest_of-line (distance_to r p) (line_count r) some

  pub line_of-inside : line_of r p < line_count r
  line_of-inside = association-nearest.inside
