-- What a selection is given, and the words for its pool that the records share.
use Rattle.std.specs.Prelude.{ℕ, Bool, List, Float, length}
use Rattle.model.specs.declared.Edition.{Edition}
use Rattle.model.specs.Plan.{Plan}
use Rattle.model.specs.Row.{row_of, feasible, beats}
use Rattle.model.specs.Reference.{point_count}

-- what a selection is given
pub record Request : Type 0 where
  -- document 02, M-100: "selection and generation step take the edition too"
  pub edition : Edition
  -- the directions' marks, one an objective
  pub marks : List ℕ
  -- H
  pub divisions : ℕ
  -- how many plans are wanted
  pub size : ℕ
  -- the pool: how many plans it has, and each of them
  pub count : ℕ
  pub plans : ℕ → Plan
  -- the ideal that it starts from, an entry an objective
  pub ideal : List Float
  -- where the generator stands
  pub state : ℕ

-- the same request in an edition
abbrev pub in_edition : Edition → Request → Request
in_edition e r = record {
  edition = e;
  marks = r.marks;
  divisions = r.divisions;
  size = r.size;
  count = r.count;
  plans = r.plans;
  ideal = r.ideal;
  state = r.state;
}

abbrev pub objectives : Request → ℕ
objectives r = length r.marks

abbrev pub line_count : Request → ℕ
line_count r = point_count (objectives r) r.divisions

-- plan p's value at objective j, in minimise-space
abbrev pub value_of : Request → ℕ → ℕ → Float
value_of r p j = row_of r.marks (r.plans p) j

-- plan p dominates plan q under the constraint rule
abbrev pub dominance : Request → ℕ → ℕ → Bool
dominance r = beats r.marks r.plans

-- plan p is feasible: "every constraint <= 0; none at all is feasible"
abbrev pub feasible_plan : Request → ℕ → Bool
feasible_plan r p = feasible (r.plans p).constraints
