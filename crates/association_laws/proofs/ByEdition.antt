-- The edition's intercepts in flat lists: those of the plane where the edition uses it, and else the old ones.
use Prim.Native.Nat.{ℕ}
use mathlib.Core.Path.{◌≡◌, ap, sym, ◌∙◌}
use mathlib.Core.Bool.{Bool, true, false, cond}
use mathlib.Core.List.{List}
use lib.Ieee.{Float}
use Rattle.model.specs.declared.Edition.{Edition}
use Rattle.model.specs.Edition.{uses_plane}
use Rattle.model.specs.Lists.{list_below, over}
use Rattle.list_laws.proofs.Built.{list_below-same}
use Rattle.association_laws.specs.Flat.{intercept_at, plane_intercept_at, intercept_by}

module _ (e : Edition) (rows : List Float) (n m : ℕ) (ideal out old : List Float) where
  abbrev chosen : Bool → ℕ → Float
  chosen b j = cond b (plane_intercept_at rows n m ideal j) (intercept_at rows n m ideal j)

  by : (b : Bool) → b ≡ uses_plane e → out ≡ over (list_below (chosen b) m) old → out ≡ over (list_below (intercept_by e rows n m ideal) m) old
  by b h g = g ∙ ap (λ (l : List Float). over l old) (list_below-same (chosen b) (intercept_by e rows n m ideal) m (λ j u. ap (λ c. chosen c j) h))

  pub by_plane : {b : Bool} → b ≡ uses_plane e → b ≡ true → out ≡ over (list_below (plane_intercept_at rows n m ideal) m) old
      → out ≡ over (list_below (intercept_by e rows n m ideal) m) old
  by_plane h t g = by true (sym t ∙ h) g

  pub by_old : {b : Bool} → b ≡ uses_plane e → b ≡ false → out ≡ over (list_below (intercept_at rows n m ideal) m) old
      → out ≡ over (list_below (intercept_by e rows n m ideal) m) old
  by_old h t g = by false (sym t ∙ h) g
