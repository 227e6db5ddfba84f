-- Only the values of the n plans at the m objectives matter, and the ideal there: what flat lists hold is carried over to a request.
use Prim.Native.Nat.{ℕ, zero, suc, ◌+◌, ◌*◌, ◌<◌}
use mathlib.Core.Path.{◌≡◌, refl, ap, ap₂, sym, subst, ◌∙◌}
use mathlib.Core.Bool.{Bool, true, cond, ◌||◌}
use mathlib.Core.List.{List}
use native.Mathlib.Omega.{arith}
use lib.Ieee.{Float, nan, inf, lt}
use lib.ListN.{get_or, replicate}
use lib.Seq.{sets}
use Rattle.model.specs.Lists.{list_below}
use Rattle.model.specs.Real.{◌⊖◌, ◌⊘◌, nought, unit, above}
use Rattle.list_laws.proofs.Below.{by_lt, cond_lt, cond_le}
use Rattle.list_laws.proofs.Best.{best_same, best_agree}
use Rattle.list_laws.proofs.Built.{list_below-same, list_below-at}
use Rattle.list_laws.proofs.Tests.{any_below-same}
use Rattle.model.specs.Hyperplane.{Matrix, Plane, weight, asf, extreme, plane_row, plane_rows, eliminated, solved, intercept_in, same_extremes, zero_pivot, unbounded, low_intercept, bound, beyond_row, beyond_bound, plane_through, plane_of, falls_back, intercepts_of}
use Rattle.hyperplane_laws.proofs.Steps.{extreme-below}

-- the plane that follows from a matrix once all steps are done
abbrev from_matrix : ℕ → List ℕ → Matrix → Plane
from_matrix m e a =
    let x = solved m a (replicate 8 nought) m in
    record { extremes = e; matrix = a; unknowns = x; intercepts = list_below (intercept_in x) m }

module _ (n m : ℕ) (value value' : ℕ → ℕ → Float) (ideal ideal' : ℕ → Float)
    (vals : (p j : ℕ) → p < n → j < m → value p j ≡ value' p j) (I : (j : ℕ) → j < m → ideal j ≡ ideal' j) (some : 0 < n) where
  asf-same : (i p : ℕ) → p < n → asf m (value p) ideal i ≡ asf m (value' p) ideal' i
  unfolding asf
  asf-same i p h = best_same above (inf true) _ _ m (λ j u. ap₂ (λ (a b : Float). (a ⊖ b) ⊘ weight i j) (vals p j h u) (I j u))

  pub extreme-same : (i : ℕ) → extreme n m value ideal i ≡ extreme n m value' ideal' i
  unfolding extreme
  extreme-same i = best_agree
      (λ p q. lt (asf m (value p) ideal i) (asf m (value q) ideal i))
      (λ p q. lt (asf m (value' p) ideal' i) (asf m (value' q) ideal' i))
      (λ p. p < n) 0 (λ p. p) n some (λ t u. u) (λ p q h k. ap₂ lt (asf-same i p h) (asf-same i q k))

  row_same : (p : ℕ) → p < n → (j : ℕ) → plane_row m (value p) ideal j ≡ plane_row m (value' p) ideal' j
  row_same p h j = by_lt j m
      (λ u. cond_lt j m (value p j ⊖ ideal j) unit u ∙ ap₂ (λ (a b : Float). a ⊖ b) (vals p j h u) (I j u) ∙ sym (cond_lt j m (value' p j ⊖ ideal' j) unit u))
      (λ u. cond_le j m (value p j ⊖ ideal j) unit u ∙ sym (cond_le j m (value' p j ⊖ ideal' j) unit u))

  rows_same : (e : List ℕ) (a : Matrix) (i : ℕ) → ((t : ℕ) → t < i → get_or e t 0 < n)
      → plane_rows m (λ t. value (get_or e t 0)) ideal a i ≡ plane_rows m (λ t. value' (get_or e t 0)) ideal' a i
  unfolding plane_rows
  rows_same e a zero h = refl
  rows_same e a (suc i) h =
      ap₂ (λ (b : Matrix) (l : List Float). sets b (i * 9) l) (rows_same e a i (λ t u. h t (omega arith)))
      (list_below-same (plane_row m (value (get_or e i 0)) ideal) (plane_row m (value' (get_or e i 0)) ideal') (m + 1) (λ j u. row_same (get_or e i 0) (h i (omega arith)) j))

  through_same : (e : List ℕ) → ((t : ℕ) → t < m → get_or e t 0 < n) → plane_through m value ideal e ≡ plane_through m value' ideal' e
  unfolding plane_through
  through_same e h = ap (λ (a : Matrix). from_matrix m e (eliminated m a m)) (rows_same e (replicate 72 nought) m h)

  pub plane_same : plane_of n m value ideal ≡ plane_of n m value' ideal'
  unfolding plane_of
  plane_same =
      through_same (list_below (extreme n m value ideal) m)
      (λ t u. subst (λ p. p < n) (sym (list_below-at (extreme n m value ideal) m 0 t u)) (extreme-below n m value ideal t some))
      ∙ ap (plane_through m value' ideal') (list_below-same (extreme n m value ideal) (extreme n m value' ideal') m (λ t u. extreme-same t))

  beyond-row : (y : List Float) (p : ℕ) → p < n → beyond_row m (value p) ideal y ≡ beyond_row m (value' p) ideal' y
  unfolding beyond_row
  beyond-row y p h = any_below-same _ _ m (λ j u. ap₂ (λ (a b : Float). lt bound ((a ⊖ b) ⊘ get_or y j nan)) (vals p j h u) (I j u))

  beyond-all : (y : List Float) → beyond_bound n m value ideal y ≡ beyond_bound n m value' ideal' y
  unfolding beyond_bound
  beyond-all y = any_below-same _ _ n (beyond-row y)

  falls-all : (p : Plane) → falls_back n m value ideal p ≡ falls_back n m value' ideal' p
  unfolding falls_back
  falls-all p = ap
      (λ (b : Bool). same_extremes p.extremes m || (zero_pivot m p.matrix || (unbounded m p || (low_intercept p.intercepts m || b))))
      (beyond-all p.intercepts)

  -- THEOREM
  pub intercepts-same : (old old' : ℕ → Float) (j : ℕ) → old j ≡ old' j → intercepts_of n m value ideal old j ≡ intercepts_of n m value' ideal' old' j
  unfolding intercepts_of
  intercepts-same old old' j e =
      ap (λ (x : Float). cond (falls_back n m value ideal (plane_of n m value ideal)) x (get_or (plane_of n m value ideal).intercepts j nan)) e
      ∙ ap (λ (p : Plane). cond (falls_back n m value ideal p) (old' j) (get_or p.intercepts j nan)) plane_same
      ∙ ap (λ (b : Bool). cond b (old' j) (get_or (plane_of n m value' ideal').intercepts j nan)) (falls-all (plane_of n m value' ideal'))
