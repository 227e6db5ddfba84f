-- Document 02, M-102: "Intercepts from the hyperplane." The extreme plans, the plane through them, its intercepts, and where the old intercepts serve.
-- Throughout there are n plans, those that shape the scale, and m objectives, 1 to 8; `value p j` is plan p's value at objective j in minimise-space, and `ideal j`
-- the ideal. Every operation on doubles is rounded once. Nothing is left out where a pivot is 0 or a number is not finite: the numbers are worked out all the
-- same, and then do not serve.
use Rattle.std.specs.Prelude.{ℕ, zero, suc, ◌+◌, ◌-◌, ◌*◌, Bool, cond, not, true, ◌||◌, List, eqb, ltb, Float, get_or, set, replicate}
use Rattle.std.specs.Float.{nan, inf, binary64}
use Rattle.std.specs.Float.Ieee.{lt, eq, neg, of_bits}
use Rattle.std.specs.Float.Ieee.Scale.{finite}
use Rattle.std.proofs.lemmas.List.Edits.{sets}
use Rattle.model.specs.declared.Edition.TheVariants.{Second}
use Rattle.model.specs.Lists.{any_below, list_below, best_from}
use Rattle.model.specs.Real.{◌⊖◌, ◌⊗◌, ◌⊘◌, nought, unit, small_span, above}
use Rattle.model.specs.Edition.{greatest_scaled}

-- ---- the extreme plans

-- "under the Rust's weights 1 and 1e-6"
abbrev pub small_weight : Float
small_weight = of_bits binary64 0x3eb0_c6f7_a0b5_ed8d

abbrev pub weight : ℕ → ℕ → Float
weight i j = cond (eqb i j) unit small_weight

-- `asf` of a row for objective i: the greatest, from minus infinity, of (value - ideal) / weight over the objectives
unfoldable pub asf : ℕ → (ℕ → Float) → (ℕ → Float) → ℕ → Float
asf m row ideal i = best_from above (inf true) (λ j. (row j ⊖ ideal j) ⊘ weight i j) m

-- "the extreme plan per objective is the pool's first with least `asf`"
unfoldable pub extreme : ℕ → ℕ → (ℕ → ℕ → Float) → (ℕ → Float) → ℕ → ℕ
extreme n m value ideal i = best_from (λ p q. lt (asf m (value p) ideal i) (asf m (value q) ideal i)) 0 (λ p. p) n

-- ---- matrices

-- A matrix is a list of rows of nine places. Row i is its m coefficients, at places 0 .. m - 1, and its right side, at place m.
abbrev pub Matrix : Type 0
Matrix = List Float

abbrev pub entry : Matrix → ℕ → ℕ → Float
entry a i j = get_or a (i * 9 + j) nan

-- row i becomes f 0, .., f m
abbrev pub put_row : ℕ → Matrix → ℕ → (ℕ → Float) → Matrix
put_row m a i f = sets a (i * 9) (list_below f (m + 1))

-- "Rows stand in objective order, each with right side 1": row i is that of extreme i, "ideal subtracted". The first i rows, over the matrix a.
abbrev pub plane_row : ℕ → (ℕ → Float) → (ℕ → Float) → ℕ → Float
plane_row m row ideal j = cond (ltb j m) (row j ⊖ ideal j) unit

unfoldable pub plane_rows : ℕ → (ℕ → ℕ → Float) → (ℕ → Float) → Matrix → ℕ → Matrix
plane_rows m rows ideal a zero = a
plane_rows m rows ideal a (suc i) = put_row m (plane_rows m rows ideal a i) i (plane_row m (rows i) ideal)

-- ---- elimination

-- magnitude; a zero keeps its sign, which no comparison sees
abbrev pub magnitude : Float → Float
magnitude x = cond (lt x nought) (neg x) x

-- "partial pivoting .., the first row as they then stand on equal magnitudes": of rows k .. m - 1
unfoldable pub pivot_row : ℕ → Matrix → ℕ → ℕ
pivot_row m a k = best_from (λ p q. lt (magnitude (entry a q k)) (magnitude (entry a p k))) k (λ t. k + t) (m - k)

-- ".. by row swaps": rows k and p change places
unfoldable pub swapped : ℕ → Matrix → ℕ → ℕ → Matrix
swapped m a k p = put_row m (put_row m a k (entry a p)) p (entry a k)

-- "a step subtracts (entry / pivot) times the pivot row": row i, whose pivot row is row k; the quotient is worked out once
unfoldable pub less_row : ℕ → Matrix → ℕ → ℕ → Matrix
less_row m a k i = let q = entry a i k ⊘ entry a k k in put_row m a i (λ j. entry a i j ⊖ (q ⊗ entry a k j))

-- so for the t rows below row k
unfoldable pub cleared : ℕ → Matrix → ℕ → ℕ → Matrix
cleared m a k zero = a
cleared m a k (suc t) = less_row m (cleared m a k t) k (k + 1 + t)

-- step k
unfoldable pub stepped : ℕ → Matrix → ℕ → Matrix
stepped m a k = let b = swapped m a k (pivot_row m a k) in cleared m b k (m - (k + 1))

-- steps 0 .. k - 1. The elimination is m steps, of which the last only has a pivot.
unfoldable pub eliminated : ℕ → Matrix → ℕ → Matrix
eliminated m a zero = a
eliminated m a (suc k) = stepped m (eliminated m a k) k

-- ---- back-substitution

-- "back-substitution subtracts known terms left to right": row i's right side less the first t terms past its own, with the unknowns of the list x
unfoldable pub less_known : ℕ → Matrix → List Float → ℕ → ℕ → Float
less_known m a x i zero = entry a i m
less_known m a x i (suc t) = less_known m a x i t ⊖ (entry a i (i + 1 + t) ⊗ get_or x (i + 1 + t) nan)

unfoldable pub unknown : ℕ → Matrix → List Float → ℕ → Float
unknown m a x i = less_known m a x i (m - (i + 1)) ⊘ entry a i i

-- the last t unknowns, each at its place in x, from the last row up
unfoldable pub solved : ℕ → Matrix → List Float → ℕ → List Float
solved m a x zero = x
solved m a x (suc t) = let y = solved m a x t in set y (m - (t + 1)) (unknown m a y (m - (t + 1)))

-- "an intercept is 1 divided by its unknown"
abbrev pub intercept_in : List Float → ℕ → Float
intercept_in x j = unit ⊘ get_or x j nan

-- ---- THE PLANE

pub record Plane : Type 0 where
  -- the extreme plan of each objective
  pub extremes : List ℕ
  -- the matrix once all steps are done
  pub matrix : Matrix
  pub unknowns : List Float
  pub intercepts : List Float

-- what is worked out from the extremes; the matrix and the list of unknowns start as zeros, of which none is read
unfoldable pub plane_through : ℕ → (ℕ → ℕ → Float) → (ℕ → Float) → List ℕ → Plane
plane_through m value ideal extremes =
    let a = eliminated m (plane_rows m (λ i. value (get_or extremes i 0)) ideal (replicate 72 nought) m) m in
    let x = solved m a (replicate 8 nought) m in
    record { extremes = extremes; matrix = a; unknowns = x; intercepts = list_below (intercept_in x) m }

unfoldable pub plane_of : ℕ → ℕ → (ℕ → ℕ → Float) → (ℕ → Float) → Plane
plane_of n m value ideal = plane_through m value ideal (list_below (extreme n m value ideal) m)

-- ---- where the old intercepts serve: five tests

-- 1. "two extremes are the same plan": the same plan of those that are looked at, not merely equal rows
unfoldable pub same_before : List ℕ → ℕ → Bool
same_before extremes i = any_below (λ j. eqb (get_or extremes j 0) (get_or extremes i 0)) i

unfoldable pub same_extremes : List ℕ → ℕ → Bool
same_extremes extremes m = any_below (same_before extremes) m

-- 2. "a pivot is 0", of either sign. Pivot k is entry (k, k) once all steps are done, since no step from k + 1 on changes row k.
unfoldable pub zero_pivot : ℕ → Matrix → Bool
zero_pivot m a = any_below (λ k. eq (entry a k k) nought) m

-- 3. "any number of the elimination or an intercept is not finite": an entry or a right side once all steps are done; an unknown; an intercept. Where any quotient,
-- product, difference or earlier entry is not finite, what is worked out from it is not either (`Finite`, `Unknowns` of hyperplane_laws).
unfoldable pub unbounded_row : ℕ → Matrix → ℕ → Bool
unbounded_row m a i = any_below (λ j. not (finite (entry a i j))) (m + 1)

unfoldable pub unbounded_matrix : ℕ → Matrix → Bool
unbounded_matrix m a = any_below (unbounded_row m a) m

unfoldable pub unbounded_in : List Float → ℕ → Bool
unbounded_in x m = any_below (λ j. not (finite (get_or x j nan))) m

unfoldable pub unbounded : ℕ → Plane → Bool
unbounded m p = unbounded_matrix m p.matrix || (unbounded_in p.unknowns m || unbounded_in p.intercepts m)

-- 4. "an intercept is not above 1e-10"
unfoldable pub low_intercept : List Float → ℕ → Bool
low_intercept x m = any_below (λ j. not (lt small_span (get_or x j nan))) m

-- 5. "a pool plan's normalised value would exceed 2^100, the bound that takes the place of 1 in edition 2"
abbrev pub bound : Float
bound = greatest_scaled Second

unfoldable pub beyond_row : ℕ → (ℕ → Float) → (ℕ → Float) → List Float → Bool
beyond_row m row ideal x = any_below (λ j. lt bound ((row j ⊖ ideal j) ⊘ get_or x j nan)) m

unfoldable pub beyond_bound : ℕ → ℕ → (ℕ → ℕ → Float) → (ℕ → Float) → List Float → Bool
beyond_bound n m value ideal x = any_below (λ p. beyond_row m (value p) ideal x) n

-- "The old intercepts serve for all objectives if .."
unfoldable pub falls_back : ℕ → ℕ → (ℕ → ℕ → Float) → (ℕ → Float) → Plane → Bool
falls_back n m value ideal p =
    same_extremes p.extremes m || (zero_pivot m p.matrix || (unbounded m p || (low_intercept p.intercepts m || beyond_bound n m value ideal p.intercepts)))

-- THE INTERCEPTS of edition 2, from the old ones
unfoldable pub intercepts_of : ℕ → ℕ → (ℕ → ℕ → Float) → (ℕ → Float) → (ℕ → Float) → ℕ → Float
intercepts_of n m value ideal old j = let p = plane_of n m value ideal in cond (falls_back n m value ideal p) (old j) (get_or p.intercepts j nan)
