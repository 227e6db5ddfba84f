-- What the parts of the work leave is the plane of the definitions, and its intercepts or the old ones are those of edition 2.
use Prim.Native.Nat.{ℕ, ◌+◌, ◌*◌, ◌≤◌, ◌<◌}
use mathlib.Core.Path.{◌≡◌, ap, ap₂, sym, subst, ◌∙◌}
use mathlib.Core.Bool.{Bool, true, false, cond}
use mathlib.Core.List.{List}
use lib.Ieee.{Float, nan}
use lib.ListN.{length, get_or, replicate}
use Rattle.model.specs.Lists.{list_below, over}
use Rattle.model.specs.Real.{nought}
use Rattle.list_laws.proofs.Built.{list_below-length, list_below-at, list_below-same, over_below}
use Rattle.list_laws.proofs.Rows.{row_within}
use Rattle.model.specs.Hyperplane.{Matrix, Plane, plane_rows, eliminated, solved, intercept_in, plane_through, plane_of, falls_back, intercepts_of}
use Rattle.hyperplane_laws.specs.Flat.{row_at, listed, extreme_at, plane_in, plane_at, plane_intercept_from, Worked}
use Rattle.hyperplane_laws.proofs.Steps.{extreme-below}
use Rattle.hyperplane_laws.proofs.Agree.{plane_rows-same, falls-same, over-over}

module _ (rows : List Float) (n m : ℕ) (ideal : List Float) where
  -- the row of an extreme lies within the rows
  pub extreme-inside : (e e₀ : List ℕ) → 0 < n → n * m ≤ length rows → e ≡ over (list_below (extreme_at rows n m ideal) m) e₀
      → (i : ℕ) → i < m → get_or e i 0 * m + m ≤ length rows
  extreme-inside e e₀ some room g i h =
      row_within (get_or e i 0) n m (length rows)
      (subst (λ p. p < n) (sym (over_below (extreme_at rows n m ideal) m e e₀ i 0 g h)) (extreme-below n m (row_at rows m) (listed ideal) i some)) room

  abbrev listing : List ℕ
  listing = list_below (extreme_at rows n m ideal) m

  abbrev P : Plane
  P = plane_at rows n m ideal

  pub worked : (e e₀ : List ℕ) (a₁ a₂ : Matrix) (x out out₀ : List Float) (r : Bool)
      → e ≡ over listing e₀
      → a₁ ≡ plane_rows m (λ i. row_at rows m (get_or e i 0)) (listed ideal) (replicate 72 nought) m
      → a₂ ≡ eliminated m a₁ m
      → x ≡ solved m a₂ (replicate 8 nought) m
      → out ≡ over (list_below (intercept_in x) m) out₀
      → r ≡ falls_back n m (row_at rows m) (listed ideal) (plane_in e a₂ x out)
      → Worked rows n m ideal out₀ out r
  unfolding plane_of plane_through
  worked e e₀ a₁ a₂ x out out₀ r he h₁ h₂ hx hy hr =
      let same : (t : ℕ) → t < m → get_or e t 0 ≡ get_or listing t 0 =
      λ t u. over_below (extreme_at rows n m ideal) m e e₀ t 0 he u ∙ sym (list_below-at (extreme_at rows n m ideal) m 0 t u) in
      let A : a₂ ≡ P.matrix =
      h₂ ∙ ap (λ (a : Matrix). eliminated m a m)
      (h₁ ∙ plane_rows-same m (λ i. row_at rows m (get_or e i 0)) (λ i. row_at rows m (get_or listing i 0)) (listed ideal) (replicate 72 nought) m (λ t u. ap (row_at rows m) (same t u))) in
      let X : x ≡ P.unknowns = hx ∙ ap (λ (a : Matrix). solved m a (replicate 8 nought) m) A in
      let Y : list_below (intercept_in x) m ≡ P.intercepts = ap (λ (v : List Float). list_below (intercept_in v) m) X in
      let near : (t : ℕ) → t < m → get_or out t nan ≡ get_or P.intercepts t nan =
      λ t u. over_below (intercept_in x) m out out₀ t nan hy u ∙ sym (list_below-at (intercept_in x) m nan t u) ∙ ap (λ (v : List Float). get_or v t nan) Y in
      record {
        intercepts = hy ∙ ap (λ (v : List Float). over v out₀) Y;
        test =
            hr ∙ falls-same n m (row_at rows m) (listed ideal) e listing a₂ x out P.intercepts same near
            ∙ ap₂ (λ (a : Matrix) (v : List Float). falls_back n m (row_at rows m) (listed ideal) (plane_in listing a v P.intercepts)) A X;
      }

  -- the plane's intercepts are m many
  plane_length : length P.intercepts ≡ m
  unfolding plane_of plane_through
  plane_length = list_below-length (intercept_in P.unknowns) m

  -- ---- the intercepts of edition 2, from the old ones

  module _ (old : ℕ → Float) where
    abbrev both : ℕ → Float
    both = plane_intercept_from rows n m ideal old

    abbrev chosen : Bool → ℕ → Float
    chosen b t = cond b (old t) (get_or P.intercepts t nan)

    chosen_is : (b : Bool) → b ≡ falls_back n m (row_at rows m) (listed ideal) P → (t : ℕ) → chosen b t ≡ both t
    unfolding intercepts_of
    chosen_is b e t = ap (λ (c : Bool). chosen c t) e

    -- where the test passes the old intercepts, written over the plane's, are those of edition 2
    pub old_serve : (out₀ out last : List Float) (r : Bool) → Worked rows n m ideal out₀ out r → r ≡ true
        → last ≡ over (list_below old m) out → last ≡ over (list_below both m) out₀
    old_serve out₀ out last r w t e =
        let olds = list_below old m in
        e ∙ ap (over olds) w.intercepts ∙ over-over olds P.intercepts out₀ (list_below-length old m ∙ sym plane_length)
        ∙ ap (λ (v : List Float). over v out₀) (list_below-same old both m (λ i u. chosen_is true (sym t ∙ w.test) i))

    -- and where it does not, the plane's are
    pub plane_serves : (out₀ out : List Float) (r : Bool) → Worked rows n m ideal out₀ out r → r ≡ false → out ≡ over (list_below both m) out₀
    unfolding plane_of plane_through
    plane_serves out₀ out r w t =
        w.intercepts
        ∙ ap (λ (v : List Float). over v out₀)
        (list_below-same (intercept_in P.unknowns) both m (λ i u. sym (list_below-at (intercept_in P.unknowns) m nan i u) ∙ chosen_is false (sym t ∙ w.test) i))
