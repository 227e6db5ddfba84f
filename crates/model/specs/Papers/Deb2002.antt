-- Deb, Pratap, Agarwal and Meyarivan 2002, "A Fast and Elitist Multiobjective Genetic Algorithm: NSGA-II": domination, constrained domination and the
-- non-dominated fronts. All objectives are minimised.
use Rattle.std.specs.Prelude.{ℕ, zero, suc, ◌<◌, Bool, false, not, ◌&&◌, ◌||◌, T, Float}
use Rattle.std.specs.Float.Ieee.{lt, le}
use Rattle.model.specs.Lists.{any_below}

-- a solution dominates another if it is no worse in any of the m objectives, and better in one of them
pub record Dominates (m : ℕ) (a b : ℕ → Float) : Type 0 where
  pub no_worse : (j : ℕ) → j < m → T (le (a j) (b j))
  pub objective : ℕ
  pub inside : objective < m
  pub better : T (lt (a objective) (b objective))

-- A solution as the constraint rule sees it: its objectives, whether it is feasible, and its overall constraint violation. Of an accepted plan the last two agree:
-- it is feasible exactly where its overall violation is at most 0 (`solution-feasible`, front_laws).
pub record Solution : Type 0 where
  pub values : ℕ → Float
  pub is_feasible : Bool
  pub overall : Float

-- a solution constrained-dominates another in one of three cases
pub data ConstrainedDominates (m : ℕ) (a b : Solution) : Type 0 where
  only_feasible : T a.is_feasible → T (not b.is_feasible) → ConstrainedDominates m a b
  less_violation : T (not a.is_feasible) → T (not b.is_feasible) → T (lt a.overall b.overall) → ConstrainedDominates m a b
  both_feasible : T a.is_feasible → T b.is_feasible → Dominates m a.values b.values → ConstrainedDominates m a b

-- ---- the fronts of a population of n solutions, where d p q says that p dominates q

-- q is of the rest and no member of the rest dominates it, where `earlier` says which solutions are no longer of the rest
unfoldable pub undominated_of_rest : (ℕ → ℕ → Bool) → ℕ → (ℕ → Bool) → ℕ → Bool
undominated_of_rest d n earlier q = not (earlier q) && not (any_below (λ p. not (earlier p) && d p q) n)

-- q is in one of the first k fronts
unfoldable pub in_first : (ℕ → ℕ → Bool) → ℕ → ℕ → ℕ → Bool
in_first d n zero q = false
in_first d n (suc k) q = in_first d n k q || undominated_of_rest d n (in_first d n k) q

-- q is in front k: it is undominated once the fronts before are set aside
abbrev pub in_front : (ℕ → ℕ → Bool) → ℕ → ℕ → ℕ → Bool
in_front d n k q = undominated_of_rest d n (in_first d n k) q
