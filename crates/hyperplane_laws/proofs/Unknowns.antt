-- Back-substitution, read off its result: each unknown is its row's right side less the known terms, left to right, divided by the pivot; and its numbers are finite
-- where the unknowns are.
use Prim.Native.Nat.{ℕ, zero, suc, ◌+◌, ◌-◌, ◌≤◌, ◌<◌}
use mathlib.Core.Path.{◌≡◌, refl, ap, ap₂, sym, subst, ◌∙◌}
use mathlib.Core.List.{List}
use native.Mathlib.Nat.{add-suc}
use native.Mathlib.Omega.{arith}
use lib.Dec.{T}
use lib.Ieee.{Float, nan}
use lib.Ieee.Scale.{finite}
use lib.ListN.{length, get_or, set, length-set}
use lib.Seq.{get_or-set_same, get_or-set_other}
use Rattle.model.specs.Real.{◌⊖◌, ◌⊗◌, ◌⊘◌}
use Rattle.list_laws.proofs.Below.{by_lt}
use Rattle.model.specs.Hyperplane.{Matrix, entry, less_known, unknown, solved}
use Rattle.hyperplane_laws.proofs.Finite.{sub_finite, div_finite}

module _ (m : ℕ) (a : Matrix) (x : List Float) (room : m ≤ length x) where
  abbrev after : ℕ → List Float
  after t = solved m a x t

  solved-length : (t : ℕ) → length (after t) ≡ length x
  unfolding solved
  solved-length zero = refl
  solved-length (suc t) = length-set (after t) (m - (t + 1)) (unknown m a (after t) (m - (t + 1))) ∙ solved-length t

  -- what is known stays
  solved-kept : (d t i : ℕ) → t + d ≤ m → m - t ≤ i → get_or (after (t + d)) i nan ≡ get_or (after t) i nan
  unfolding solved
  solved-kept zero t i h k = ap (λ s. get_or (after s) i nan) (let e : t + 0 ≡ t = omega arith in e)
  solved-kept (suc d) t i h k =
      ap (λ s. get_or (after s) i nan) (add-suc t d)
      ∙ get_or-set_other (after (t + d)) (m - (t + d + 1)) i (unknown m a (after (t + d)) (m - (t + d + 1))) nan (λ e. omega arith)
      ∙ solved-kept d t i (omega arith) k

  -- only the unknowns past i are read
  less_known-same : (y z : List Float) (i t : ℕ) → ((j : ℕ) → i < j → get_or y j nan ≡ get_or z j nan) → less_known m a y i t ≡ less_known m a z i t
  unfolding less_known
  less_known-same y z i zero h = refl
  less_known-same y z i (suc t) h = ap₂ (λ r v. r ⊖ (entry a i (i + 1 + t) ⊗ v)) (less_known-same y z i t h) (h (i + 1 + t) (omega arith))

  abbrev pub solution : List Float
  solution = after m

  -- THEOREM: each unknown by its row
  pub unknown-row : (i : ℕ) → i < m → get_or solution i nan ≡ less_known m a solution i (m - (i + 1)) ⊘ entry a i i
  unfolding solved unknown
  unknown-row i h =
      let t : ℕ = m - (i + 1) in
      let e : m ≡ suc t + i = omega arith in
      let f : m - (t + 1) ≡ i = omega arith in
      let g : m ≡ t + (i + 1) = omega arith in
      let n = solved-length t in
      ap (λ s. get_or (after s) i nan) e
      ∙ solved-kept i (suc t) i (omega arith) (omega arith)
      ∙ ap (λ s. get_or (set (after t) s (unknown m a (after t) s)) i nan) f
      ∙ get_or-set_same (after t) i (unknown m a (after t) i) nan (omega arith)
      ∙ ap (λ r. r ⊘ entry a i i) (less_known-same (after t) solution i (m - (i + 1))
      (λ j k. sym (ap (λ s. get_or (after s) j nan) g ∙ solved-kept (i + 1) t j (omega arith) (omega arith))))

  -- a difference that is finite has finite parts, each in its turn
  known_finite : (i t : ℕ) → T (finite (less_known m a solution i t)) → (s : ℕ) → s < t
      → T (finite (less_known m a solution i s)) × T (finite (entry a i (i + 1 + s) ⊗ get_or solution (i + 1 + s) nan))
  unfolding less_known
  known_finite i zero u s h = absurd (omega arith)
  known_finite i (suc t) u s h =
      let r = sub_finite (less_known m a solution i t) (entry a i (i + 1 + t) ⊗ get_or solution (i + 1 + t) nan) u in
      by_lt s t (λ l. known_finite i t r.0 s l) (λ l. let e : t ≡ s = omega arith in subst (λ k. T (finite (less_known m a solution i k)) × T (finite (entry a i (i + 1 + k) ⊗ get_or solution (i + 1 + k) nan))) e r)

  -- THEOREM: where an unknown is finite, so are its right side, the known terms and what they leave, one after the other
  pub terms_finite : (i : ℕ) → i < m → T (finite (get_or solution i nan)) → (s : ℕ) → s < m - (i + 1)
      → T (finite (less_known m a solution i s)) × T (finite (entry a i (i + 1 + s) ⊗ get_or solution (i + 1 + s) nan))
  terms_finite i h u = known_finite i (m - (i + 1))
      (div_finite (less_known m a solution i (m - (i + 1))) (entry a i i) (subst (λ v. T (finite v)) (unknown-row i h) u))
