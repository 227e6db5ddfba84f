-- What the readers of numbers and of plans answer and store, in model's words.
use Rattle.std.specs.Prelude.{ℕ, ◌+◌, ◌≤◌, ◌<◌, ◌≡◌, ◌⊎◌, List, map, get_or, set, take, drop, Option, Some, None}
use Rattle.std.proofs.lemmas.List.Edits.{sets}
use Rattle.model.specs.Plan.{Plan, plan_from, plan_at, max_objectives, max_constraints, plan_words}
use Rattle.model.specs.PoolFile.{Reader, pure, number, many, rows, measured, no_plan}
use Rattle.model.specs.declared.Edition.TheVariants.{First}
use Rattle.model.specs.Edition.{most_plans}

-- what a reader reads from `at` on ends at `next`, and Q holds of it; the place after it is answered, or that nothing is read
pub record Reads {A : Type 0} (r : Reader A) (Q : A → Type 0) (file : List ℕ) (at next : ℕ) : Type 0 where
  pub value : A
  pub reads : r (drop at file) ≡ pure value (drop next file)
  pub stored : Q value

module _ {A : Type 0} where
  abbrev pub ReadsIs : Reader A → (A → Type 0) → List ℕ → ℕ → Option ℕ → Type 0
  ReadsIs r Q file at (Some next) = Reads r Q file at next
  ReadsIs r Q file at None = r (drop at file) ≡ None

-- the first `keep` of n numbers stand in a list from `base` on, each as `h` has it
abbrev pub Held : (ℕ → ℕ) → ℕ → ℕ → List ℕ → List ℕ → List ℕ → Type 0
Held h keep base before after values = after ≡ sets before base (map h (take keep values))

abbrev pub WordsIs : (ℕ → ℕ) → List ℕ → ℕ → ℕ → ℕ → ℕ → List ℕ → List ℕ → Option ℕ → Type 0
WordsIs h file at n keep base before after = ReadsIs (many n number) (Held h keep base before after) file at

abbrev pub Words : (ℕ → ℕ) → List ℕ → ℕ → ℕ → ℕ → ℕ → List ℕ → List ℕ → ℕ → Type 0
Words h file at n keep base before after next = WordsIs h file at n keep base before after (Some next)

-- a plan of a file as its words hold it: there is room for 8 values and 16 constraints
abbrev pub roomed : Plan → Plan
roomed p = record {
  number = p.number;
  row_length = p.row_length;
  row = take max_objectives p.row;
  constraint_count = p.constraint_count;
  constraints = take max_constraints p.constraints;
  setting_count = p.setting_count;
  settings = p.settings;
}

-- the words of a plan beside its values and constraints, stored at their four places: its number, its row length and its two other counts
unfoldable pub counted : List ℕ → ℕ → ℕ → ℕ → List ℕ
counted l base m c = set (set (set (set l base 0) (base + 1) m) (base + 10) c) (base + 27) 0

-- a plan stands in the block of words at `base`; the other words are as they were
pub record Block (base : ℕ) (before after : List ℕ) (held : Plan) : Type 0 where
  pub stored : plan_from after base ≡ roomed held
  pub others : (i : ℕ) → (i < base) ⊎ (base + plan_words ≤ i) → get_or after i 0 ≡ get_or before i 0

-- the plan of m values whose rows are read from `at` on
abbrev pub BlockIs : List ℕ → ℕ → ℕ → ℕ → List ℕ → List ℕ → Option ℕ → Type 0
BlockIs file at m base before after = ReadsIs (rows m) (λ r. Block base before after (measured m r)) file at

-- if n plans are no more than a pool holds, each stands in its block
abbrev pub Blocks : ℕ → List ℕ → List Plan → Type 0
Blocks n after plans = n ≤ most_plans First → (p : ℕ) → p < n → plan_at after p ≡ roomed (get_or plans p no_plan)
