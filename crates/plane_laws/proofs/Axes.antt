-- THEOREM: where the extreme plans less the ideal lie on the axes, at a 0, .., a (m - 1), and each of these is given back by two divisions, as every power of two is, the
-- plane's intercepts are exactly these.
use Prim.Native.Nat.{ℕ, zero, suc, ◌+◌, ◌*◌, ◌≤◌, ◌<◌}
use mathlib.Core.Path.{◌≡◌, refl, ap, sym, ◌∙◌}
use mathlib.Core.Bool.{true, cond}
use mathlib.Core.List.{List}
use native.Mathlib.Omega.{arith}
use borrow.Author.Tests.{eq-eqb, ne_eqb, eqb-true, eqb-false}
use lib.Dec.{T, eqb}
use lib.Ieee.{Float, binary64, fits}
use lib.ListN.{length, get_or, replicate, length-replicate}
use lib.Seq.{length-sets}
use Rattle.model.specs.Lists.{list_below}
use Rattle.model.specs.Real.{◌⊖◌, ◌⊘◌, nought, unit}
use Rattle.list_laws.proofs.Bools.{by_bool, true_T}
use Rattle.list_laws.proofs.Below.{by_lt, cond_lt, cond_le}
use Rattle.list_laws.proofs.Built.{list_below-same}
use Rattle.model.specs.Hyperplane.{Matrix, entry, plane_row, plane_rows, eliminated, intercept_in, plane_through}
use Rattle.hyperplane_laws.proofs.Entries.{put-here, put_else}
use Rattle.plane_laws.specs.Axes.{inverts, power_of_two, OnAxes}
use Rattle.plane_laws.proofs.Powers.{back, powers_invert}
use Rattle.plane_laws.proofs.Diagonal.{Diagonal, diagonal, own, beside, steps_diagonal, unknown_inverse}

-- the matrix before the steps, entry by entry
module _ (m : ℕ) (few : m ≤ 8) (rows : ℕ → ℕ → Float) (ideal : ℕ → Float) (z : Matrix) (room : 72 ≤ length z) where
  pub rows-length : (t : ℕ) → length (plane_rows m rows ideal z t) ≡ length z
  unfolding plane_rows
  rows-length zero = refl
  rows-length (suc t) = length-sets (plane_rows m rows ideal z t) (t * 9) (list_below (plane_row m (rows t) ideal) (m + 1)) ∙ rows-length t

  pub rows-entry : (t : ℕ) → t ≤ m → (i j : ℕ) → i < t → j < m + 1 → entry (plane_rows m rows ideal z t) i j ≡ plane_row m (rows i) ideal j
  unfolding plane_rows
  rows-entry zero g i j h u = absurd (omega arith)
  rows-entry (suc t) g i j h u = by_lt i t
      (λ l. put_else m few (plane_rows m rows ideal z t) t (plane_row m (rows t) ideal) i j (λ e. omega arith) u ∙ rows-entry t (omega arith) i j l u)
      (λ l. let e : i ≡ t = omega arith in
      ap (λ r. entry (plane_rows m rows ideal z (suc t)) r j) e
      ∙ put-here m few (plane_rows m rows ideal z t) t (plane_row m (rows t) ideal) j (omega (arith, rows-length t)) (omega arith) u
      ∙ ap (λ r. plane_row m (rows r) ideal j) (sym e))

module _ (m : ℕ) (few : m ≤ 8) (value : ℕ → ℕ → Float) (ideal : ℕ → Float) (extremes : List ℕ) (a : ℕ → Float) (O : OnAxes m value ideal extremes a)
    (held : (i : ℕ) → i < m → T (fits binary64 (a i))) (inv : (i : ℕ) → i < m → inverts (a i) ≡ true) where
  abbrev z : Matrix
  z = replicate 72 nought

  abbrev first : Matrix
  first = plane_rows m (λ i. value (get_or extremes i 0)) ideal z m

  wide : 72 ≤ length first
  wide = omega (arith, rows-length m few (λ i. value (get_or extremes i 0)) ideal z (omega (arith, length-replicate 72 nought)) m, length-replicate 72 nought)

  first-diagonal : Diagonal m few a held inv first
  first-diagonal i j h u =
      rows-entry m few (λ i. value (get_or extremes i 0)) ideal z (omega (arith, length-replicate 72 nought)) m (omega arith) i j h u
      ∙ by_lt j m
      (λ l. cond_lt j m (value (get_or extremes i 0) j ⊖ ideal j) unit l ∙ by_bool (eqb i j)
      (λ e. let q = eqb-true i j e in
      ap (λ t. value (get_or extremes i 0) t ⊖ ideal t) (sym q) ∙ O.own i h ∙ sym (own m few a held inv i h) ∙ ap (diagonal m few a held inv i) q)
      (λ e. O.other i j h l (eqb-false i j e) ∙ sym (beside m few a held inv i j (λ q. omega arith) (eqb-false i j e))))
      (λ l. let q : m ≡ j = omega arith in
      cond_le j m (value (get_or extremes i 0) j ⊖ ideal j) unit l ∙ sym (ap (λ b. cond b unit (cond (eqb i j) (a i) nought)) (eq-eqb j m (sym q))))

  -- THEOREM
  pub axes-intercepts : (plane_through m value ideal extremes).intercepts ≡ list_below a m
  unfolding plane_through
  axes-intercepts =
      let P = plane_through m value ideal extremes in
      let D = (steps_diagonal m few a held inv first wide first-diagonal m (omega arith)).0 in
      list_below-same (intercept_in P.unknowns) a m
      (λ j u. ap (λ v. unit ⊘ v) (unknown_inverse m few a held inv (eliminated m first m) D (replicate 8 nought) (omega (arith, length-replicate 8 nought)) m j u (omega arith))
      ∙ back (a j) (held j u) (inv j u))

-- THEOREM: the same at powers of two, from 2^-33 to 2^1000
pub powers_intercepts : (m : ℕ) → m ≤ 8 → (value : ℕ → ℕ → Float) (ideal : ℕ → Float) (extremes : List ℕ) (k : ℕ → ℕ) → ((i : ℕ) → i < m → k i < 1034)
    → OnAxes m value ideal extremes (λ i. power_of_two (k i)) → (plane_through m value ideal extremes).intercepts ≡ list_below (λ i. power_of_two (k i)) m
powers_intercepts m few value ideal extremes k h O = axes-intercepts m few value ideal extremes (λ i. power_of_two (k i)) O
    (λ i u. true_T (fits binary64 (power_of_two (k i))) (powers_invert (k i) (h i u)).1) (λ i u. (powers_invert (k i) (h i u)).0)
