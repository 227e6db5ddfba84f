-- What the parser answers and stores, in model's words.
use Rattle.std.specs.Prelude.{ℕ, ◌≤◌, ◌≡◌, Bool, cond, List, map, ltb, get_or, take, drop, Option, Some, None}
use Rattle.model.specs.Plan.{Plan, max_objectives}
use Rattle.model.specs.PoolFile.{Parsed, Reader, PoolFile, pure, number, many, file_by, parse_by, parse, ◌>>=◌}
use Rattle.pool_plans.specs.Blocks.{Blocks}
use Rattle.pool_editions.specs.Editions.{plan_in}
use Rattle.pool_file.specs.declared.Header.{Header}
use Rattle.pool_file.specs.declared.Heading.{Heading}

-- a mark as a byte holds it: 0 and 1 as they are, and 2 for every other
abbrev pub capped : ℕ → ℕ
capped k = cond (ltb k 2) k 2

-- the header that five numbers form, and the file that it forms with its marks and its plans
abbrev pub header_of : List ℕ → Header
header_of l = record { m = get_or l 0 0; divisions = get_or l 1 0; size = get_or l 2 0; count = get_or l 3 0; seed = get_or l 4 0 }

abbrev pub file_of : Header → List ℕ → List Plan → PoolFile
file_of h marks plans = record {
  objectives = h.m;
  divisions = h.divisions;
  size = h.size;
  count = h.count;
  seed = h.seed;
  marks = marks;
  plans = plans;
}

-- ---- a file of the second edition or of the first

-- what follows the header
unfoldable pub after_header : Bool → Header → Reader PoolFile
after_header second h = do
  marks ← many h.m number
  plans ← many h.count (plan_in second h.m)
  pure (file_of h marks plans)

-- what is read after a heading, where there is one
abbrev pub headed : Bool → List ℕ → Option Heading → Option (Parsed PoolFile)
headed second file (Some h) = after_header second h.header (drop h.next file)
headed second file None = None

-- the header that stands at a place
abbrev pub HeadingIs : List ℕ → ℕ → Option Heading → Type 0
HeadingIs file at r = (second : Bool) → file_by (plan_in second) (drop at file) ≡ headed second file r

-- the second edition's fields begin behind the number that opens it
abbrev pub begins : Bool → ℕ
begins second = cond second 1 0

unfoldable pub file_in : Bool → Reader PoolFile
file_in second bytes = file_by (plan_in second) (drop (begins second) bytes)

-- the pool of a file that is read as one of an edition; `parse` reads each file as one of its own (`parse_in_lem`)
abbrev pub parse_in : Bool → List ℕ → Option PoolFile
parse_in second bytes = parse_by (file_in second) bytes

-- ---- the parser's answer

-- a file in good form: its header, its marks and its plans, the marks and the plans as they are stored
pub record PoolOf (file : Option PoolFile) (h : Header) (directions pool : List ℕ) : Type 0 where
  pub values : List ℕ
  pub read : List Plan
  pub parsed : file ≡ Some (file_of h values read)
  pub marks : h.m ≤ max_objectives → take h.m directions ≡ map capped values
  pub plans : Blocks h.count pool read

-- the answer for what a file is read as
abbrev pub PoolOfIs : Option PoolFile → List ℕ → List ℕ → Option Header → Type 0
PoolOfIs file directions pool (Some h) = PoolOf file h directions pool
PoolOfIs file directions pool None = file ≡ None

abbrev pub Pool : List ℕ → Header → List ℕ → List ℕ → Type 0
Pool file h directions pool = PoolOf (parse file) h directions pool

-- THE PROMISE of the parser
abbrev pub PoolIs : List ℕ → List ℕ → List ℕ → Option Header → Type 0
PoolIs file directions pool r = PoolOfIs (parse file) directions pool r
