-- A request's pool, read into flat lists, sorted and cut, in the model's words.
use Prim.Native.Nat.{ℕ, ◌≤◌}
use mathlib.Core.Path.{◌≡◌, sym, subst}
use mathlib.Core.Bool.{Bool}
use mathlib.Core.List.{List}
use lib.Ieee.{Float}
use lib.ListN.{length}
use Rattle.model.specs.Association.{Request, objectives, dominance}
use Rattle.front_laws.specs.Strict.{Strict}
use Rattle.front_laws.specs.Flat.{flat_beats, KnownPlans}
use Rattle.front_laws.specs.Post.{Sorted}
use Rattle.front_laws.proofs.Meaning.{sorted_beats}
use Rattle.front_laws.proofs.Places.{sorted_order}
use Rattle.front_laws.proofs.Plans.{beats_strict}
use Rattle.front_cut.specs.declared.Cut.{Cut}
use Rattle.front_cut.specs.Fitting.{cut_of}
use Rattle.front_cut.proofs.Kept.{CutsAt, cut-request}
use Rattle.plan_rows.specs.Filled.{ConstraintsOf}
use Rattle.plan_rows.proofs.Pool.{flat-of}
use Rattle.pool_sort.specs.Laid.{RowsIn, Sorts}

-- the rows are in the table, and no value is a NaN
module _ (r : Request) (n : ℕ) (e : n ≡ r.count) (rows : List Float) (laid : RowsIn r.marks r.plans r.count rows)
    (known : KnownPlans r.marks r.plans r.count) where
  strict : Strict (dominance r) r.count
  strict = beats_strict r.marks r.plans r.count known

  pub sorts : (flags₀ flags : List Bool) (sums₀ sums : List Float) (o₀ o k₀ k e₀ ends : List ℕ) (x : ℕ) (c : Cut) → r.count ≤ length o
      → ConstraintsOf r.plans n flags₀ flags sums₀ sums
      → Sorted (flat_beats rows (objectives r) flags sums) n o₀ o k₀ k e₀ ends x → c ≡ cut_of ends x r.size → Sorts r o c k₀ k
  sorts flags₀ flags sums₀ sums o₀ o k₀ k e₀ ends x c places = subst
      (λ n. ConstraintsOf r.plans n flags₀ flags sums₀ sums → Sorted (flat_beats rows (objectives r) flags sums) n o₀ o k₀ k e₀ ends x
      → c ≡ cut_of ends x r.size → Sorts r o c k₀ k)
      (sym e)
      (λ constraints s same.
      let t = sorted_beats r.marks r.plans r.count rows flags sums o₀ o k₀ k e₀ ends x
      (flat-of r.marks r.plans r.count rows laid.values flags₀ flags sums₀ sums constraints) s in
      record {
        order = record {
          places = places;
          listed = sorted_order (dominance r) r.count o₀ o k₀ k e₀ ends x t strict;
          cut = subst (CutsAt r o) (sym same) (cut-request r strict o₀ o k₀ k e₀ ends x t);
        };
        ranks = t.ranks;
      })
