-- What the sorts' promise, said of flat lists, says of the plans of a pool.
use Prim.Native.Nat.{ℕ, ◌<◌}
use mathlib.Core.Path.{◌≡◌, sym, ◌∙◌}
use mathlib.Core.Bool.{Bool, false, true≢false}
use mathlib.Core.Logic.{◌↔◌}
use mathlib.Core.List.{List, []}
use lib.Ieee.{Float}
use lib.ListN.{length}
use Rattle.model.specs.Front.{front}
use Rattle.model.specs.Lists.{In}
use Rattle.model.specs.Papers.Deb2002.{ConstrainedDominates, in_first}
use Rattle.model.specs.Plan.{Plan}
use Rattle.model.specs.Row.{row_beats, beats}
use Rattle.list_laws.proofs.Bools.{no_pass}
use Rattle.front_laws.proofs.Theorems.{front_undominated}
use Rattle.front_laws.specs.Flat.{flat_dominates, flat_beats, RowsOf, FlatOf}
use Rattle.front_laws.specs.Post.{Sorted}
use Rattle.front_laws.proofs.Flat.{flat_beats-beats, flat_dominates-row_beats}
use Rattle.front_laws.proofs.Plans.{Accepted, solution_of, beats-paper, beats_unconstrained}
use Rattle.front_laws.proofs.Sorting.{sorted_same}

module _ (marks : List ℕ) (plans : ℕ → Plan) (n : ℕ) where
  -- THE FRONTS ARE THE PAPER'S: of the plans that no front before front k holds, front k holds those that none of these constrained-dominates
  pub front_constrained_paper : ((p : ℕ) → p < n → Accepted (length marks) (plans p)) → (k q : ℕ)
      → In q (front (beats marks plans) n k)
      ↔ ((q < n) × (in_first (beats marks plans) n k q ≡ false)
      × ((p : ℕ) → p < n → in_first (beats marks plans) n k p ≡ false → ConstrainedDominates (length marks) (solution_of marks (plans p)) (solution_of marks (plans q)) → ⊥))
  front_constrained_paper a k q = (
    λ m. let h = (front_undominated (beats marks plans) n k q).0 m in (
      h.0,
      h.1,
      λ p l y c. true≢false (sym ((beats-paper marks plans p q (a p l) (a q h.0)).1 c) ∙ h.2 p l y),
    ),
    λ h. (front_undominated (beats marks plans) n k q).1 (
      h.0,
      h.1,
      λ p l y. no_pass (beats marks plans p q) (λ e. h.2 p l y ((beats-paper marks plans p q (a p l) (a q h.0)).0 e)),
    ),
  )

  -- the constrained sort of the pool's flat lists gives the front list under the constraint rule, the other that by rows
  pub sorted_beats : (rows : List Float) (flags : List Bool) (sums : List Float) (o₀ o r₀ r e₀ e : List ℕ) (x : ℕ) → FlatOf marks plans n rows flags sums
      → Sorted (flat_beats rows (length marks) flags sums) n o₀ o r₀ r e₀ e x → Sorted (beats marks plans) n o₀ o r₀ r e₀ e x
  sorted_beats rows flags sums o₀ o r₀ r e₀ e x h = sorted_same _ _ n o₀ o r₀ r e₀ e x (flat_beats-beats marks plans n rows flags sums h)

  pub sorted_row_beats : (rows : List Float) (o₀ o r₀ r e₀ e : List ℕ) (x : ℕ) → RowsOf marks plans n rows
      → Sorted (flat_dominates rows (length marks)) n o₀ o r₀ r e₀ e x → Sorted (row_beats marks plans) n o₀ o r₀ r e₀ e x
  sorted_row_beats rows o₀ o r₀ r e₀ e x h = sorted_same _ _ n o₀ o r₀ r e₀ e x (flat_dominates-row_beats marks plans n rows h)

  -- where no plan has constraints, the two sorts promise the same
  pub sorted_unconstrained : ((p : ℕ) → p < n → (plans p).constraints ≡ []) → (o₀ o r₀ r e₀ e : List ℕ) (x : ℕ) → Sorted (row_beats marks plans) n o₀ o r₀ r e₀ e x → Sorted (beats marks plans) n o₀ o r₀ r e₀ e x
  sorted_unconstrained none o₀ o r₀ r e₀ e x = sorted_same _ _ n o₀ o r₀ r e₀ e x (λ p q lp lq. sym (beats_unconstrained marks plans n none p q lp lq))
