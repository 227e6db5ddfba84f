-- Document 01, "Pool file", and document 02, M-111: the form of the file that `choose` reads, in its two editions, and the text that it prints.
use Rattle.std.specs.Prelude.{ℕ, zero, suc, ◌+◌, ◌*◌, ◌/◌, ◌%◌, ◌^◌, Bool, false, cond, not, ◌&&◌, ◌||◌, eqb, leb, ltb, length, get_or, drop, replicate, Option, None, Some}
use Prim.Native.Char.{code}
use Prim.Native.String.{String, len, char_at}
use mathlib.Core.List.{List, [], ◌∷◌, ◌++◌, map, flatten}
use Rattle.std.specs.Int.Signed.{le_z}
use Rattle.model.specs.declared.Edition.TheVariants.{First}
use Rattle.model.specs.Lists.{place_in, list_below, join_below}
use Rattle.model.specs.Real.{real, infinity}
use Rattle.model.specs.Plan.{Plan, Setting, measured_plan}
use Rattle.model.specs.Association.{Request}
use Rattle.model.specs.Kept.{Selected, selected, without_line}
use Rattle.model.specs.Setting.{int_of_word, min_whole, max_whole}

-- ---- reading

-- A reader takes the bytes that are left, and gives what it read with the bytes after it, or nothing where they break the form or end early.
pub record Parsed (A : Type 0) : Type 0 where
  pub value : A
  pub rest : List ℕ

abbrev pub Reader : Type 0 → Type 0
Reader A = List ℕ → Option (Parsed A)

module _ {A : Type 0} where
  abbrev pub pure : A → Reader A
  pure a bytes = Some (record { value = a; rest = bytes })

-- one reader after the other; the second may use what the first read
module _ {A B : Type 0} where
  abbrev pub onward : Option (Parsed A) → (A → Reader B) → Option (Parsed B)
  onward None f = None
  onward (Some p) f = f p.value p.rest

  abbrev pub ◌>>=◌ : Reader A → (A → Reader B) → Reader B
  ◌>>=◌ r f = λ bytes. onward (r bytes) f

-- "Unsigned numbers in groups of seven bits, lowest first, top bit set on all but the last byte, shortest form, each below 2^64": the groups so far have k bits
-- and form n. The shortest form has no last group of nothing but zeros, unless it is the only one.
unfoldable pub number_from : ℕ → ℕ → Reader ℕ
number_from k n [] = None
number_from k n (b ∷ bytes) =
    let v = n + b % 128 * 2 ^ k in
    let more = number_from (k + 7) v bytes in
    cond (leb 128 b) more (cond (ltb v (2 ^ 64) && (leb 1 b || eqb k 0)) (Some (record { value = v; rest = bytes })) None)

abbrev pub number : Reader ℕ
number = number_from 0 0

-- the form as it is written: the groups of n, for an n of at most 7 × `groups` bits; 10 groups hold every word
unfoldable pub groups_of : ℕ → ℕ → List ℕ
groups_of zero n = []
groups_of (suc groups) n = let more = (n % 128 + 128) ∷ groups_of groups (n / 128) in cond (ltb n 128) (n ∷ []) more

abbrev pub written : ℕ → List ℕ
written n = groups_of 10 n

-- so many of the same, one after the other
module _ {A : Type 0} where
  unfoldable pub many : ℕ → Reader A → Reader (List A)
  many zero r = pure []
  many (suc n) r = do
    a ← r
    l ← many n r
    pure (a ∷ l)

-- ---- the file, by what it is read into

-- what stands in a file for a plan, as numbers: "a real as the number its 64 IEEE bits form"
pub record Rows : Type 0 where
  pub values : List ℕ
  pub constraints : List ℕ

-- "per plan m values, constraint count, constraints"
unfoldable pub rows : ℕ → Reader Rows
rows m = do
  values ← many m number
  c ← number
  constraints ← many c number
  pure (record { values = values; constraints = constraints })

-- "m, H, size, plan count, seed, m directions (0 minimise, 1 maximise); per plan ..": a file whose plans are read into a P each
pub record File (P : Type 0) : Type 0 where
  pub objectives : ℕ
  pub divisions : ℕ
  pub size : ℕ
  pub count : ℕ
  pub seed : ℕ
  pub marks : List ℕ
  pub plans : List P

module _ {P : Type 0} where
  unfoldable pub file_by : (ℕ → Reader P) → Reader (File P)
  file_by plan = do
    m ← number
    h ← number
    size ← number
    count ← number
    seed ← number
    marks ← many m number
    plans ← many count (plan m)
    pure (record { objectives = m; divisions = h; size = size; count = count; seed = seed; marks = marks; plans = plans })

-- ---- the file as it is written

-- numbers one after the other, each in its form
unfoldable pub written_all : List ℕ → List ℕ
written_all [] = []
written_all (n ∷ ns) = written n ++ written_all ns

-- the numbers of a plan's rows, and of a file whose plans' numbers are given by `numbers`
abbrev pub row_numbers : Rows → List ℕ
row_numbers r = r.values ++ (length r.constraints ∷ r.constraints)

module _ {P : Type 0} where
  unfoldable pub file_numbers : (P → List ℕ) → File P → List ℕ
  file_numbers numbers f = f.objectives ∷ f.divisions ∷ f.size ∷ f.count ∷ f.seed ∷ (f.marks ++ flatten (map numbers f.plans))

unfoldable pub first_form : File Rows → List ℕ
first_form f = written_all (file_numbers row_numbers f)

-- ---- the pool that a file holds

abbrev pub PoolFile : Type 0
PoolFile = File Plan

-- the plan of m values that stands for such numbers
abbrev pub measured : ℕ → Rows → Plan
measured m r = measured_plan m (map real r.values) (length r.constraints) (map real r.constraints)

unfoldable pub plan : ℕ → Reader Plan
plan m = do
  r ← rows m
  pure (measured m r)

unfoldable pub pool_file : Reader PoolFile
pool_file = file_by plan

-- refusal 1: "A pool file breaks its form, ends early, runs on or is too long."
abbrev pub max_file : ℕ
max_file = 65536

-- what is read where nothing is left behind it
module _ {A : Type 0} where
  abbrev pub if_none_left : List ℕ → A → Option A
  if_none_left [] a = Some a
  if_none_left (b ∷ bytes) a = None

  abbrev pub wholly : Option (Parsed A) → Option A
  wholly None = None
  wholly (Some p) = if_none_left p.rest p.value

  -- the file that so many bytes hold, where they are not too many and none is left
  unfoldable pub parse_by : Reader A → List ℕ → Option A
  parse_by r bytes = cond (leb (length bytes) max_file) (wholly (r bytes)) None

-- ---- the second edition (document 02, M-111)

-- "the settings: parameter number, kind (0 Float, 1 Int, 2 Categorical), value. A Float is its bits; an Int n is 2n from zero up and -2n - 1 below. Ints lie
-- within 2^53 in magnitude."
unfoldable pub good_setting : Setting → Bool
good_setting x = leb x.kind 2 && (not (eqb x.kind 1) || (le_z min_whole (int_of_word x.value) && le_z (int_of_word x.value) max_whole))

abbrev pub if_good : Setting → Reader Setting
if_good x bytes = cond (good_setting x) (pure x bytes) None

unfoldable pub setting : Reader Setting
setting = do
  param ← number
  kind ← number
  value ← number
  if_good (record { param = param; kind = kind; value = value })

-- "each plan begins with its number and ends with a setting count and the settings"; between them it has the first edition's rows
pub record Numbered : Type 0 where
  pub number : ℕ
  pub rows : Rows
  pub settings : List Setting

unfoldable pub numbered : ℕ → Reader Numbered
numbered m = do
  n ← number
  r ← rows m
  c ← number
  settings ← many c setting
  pure (record { number = n; rows = r; settings = settings })

-- "The second edition opens with 64, a number of objectives that the first always turned down, then has the first's fields"; the form of 64 is that one byte
abbrev pub opens_second : List ℕ → Bool
opens_second [] = false
opens_second (b ∷ bytes) = eqb b 64

unfoldable pub second_file : Reader (File Numbered)
second_file bytes = file_by numbered (drop 1 bytes)

-- "`choose` reads both editions and passes over numbers and settings": the pool of a file of the second
abbrev pub is_passed_over : File Numbered → PoolFile
is_passed_over f = record {
  objectives = f.objectives;
  divisions = f.divisions;
  size = f.size;
  count = f.count;
  seed = f.seed;
  marks = f.marks;
  plans = map (λ p. measured f.objectives p.rows) f.plans;
}

abbrev pub pool_of : Option (File Numbered) → Option PoolFile
pool_of None = None
pool_of (Some f) = Some (is_passed_over f)

-- the pool of a file of either edition
unfoldable pub parse : List ℕ → Option PoolFile
parse bytes = cond (opens_second bytes) (pool_of (parse_by second_file bytes)) (parse_by pool_file bytes)

-- ---- the selection that a pool file asks for

abbrev pub no_plan : Plan
no_plan = measured_plan 0 [] 0 []

-- "The ideal starts at infinity." Document 02, M-100: "`choose` stays with 1"
abbrev pub file_request : PoolFile → Request
file_request f = record {
  edition = First;
  marks = f.marks;
  divisions = f.divisions;
  size = f.size;
  count = f.count;
  plans = λ p. get_or f.plans p no_plan;
  ideal = replicate f.objectives infinity;
  state = f.seed;
}

-- ---- printing

-- the bytes of a text in ASCII
unfoldable pub ascii : String → List ℕ
ascii s = list_below (λ i. code (char_at s i)) (len s)

-- a number in decimal, of at most so many digits; 20 digits hold every word
unfoldable pub digits_of : ℕ → ℕ → List ℕ
digits_of zero n = []
digits_of (suc digits) n = let more = digits_of digits (n / 10) ++ ((48 + n % 10) ∷ []) in cond (ltb n 10) ((48 + n) ∷ []) more

abbrev pub decimal : ℕ → List ℕ
decimal n = digits_of 20 n

-- "line (`-` if no front was split)"
unfoldable pub line_text : ℕ → List ℕ
line_text l = cond (eqb l without_line) (ascii "-") (decimal l)

-- "place of first keeping from 1 (0 if dropped)"
unfoldable pub place_of : List ℕ → ℕ → ℕ
place_of kept p = let i = place_in kept p in cond (ltb i (length kept)) (suc i) 0

-- "a header with the plan count and the kept list's length, then per plan its index, front, line .., place .."; each line ends in one newline
unfoldable pub header_text : ℕ → ℕ → List ℕ
header_text count kept = ascii "plans " ++ (decimal count ++ (ascii " kept " ++ (decimal kept ++ ascii "\n")))

unfoldable pub plan_text : Selected → ℕ → List ℕ
plan_text sel p =
    decimal p ++ (ascii " " ++ (decimal (get_or sel.fronts p 0) ++ (ascii " " ++ (line_text (get_or sel.lines p 0)
    ++ (ascii " " ++ (decimal (place_of sel.kept p) ++ ascii "\n"))))))

unfoldable pub listing_text : ℕ → Selected → List ℕ
listing_text count sel = header_text count (length sel.kept) ++ join_below (plan_text sel) count

-- the listing of what a request selects, and that for a pool file in good form
abbrev pub request_text : Request → List ℕ
request_text r = listing_text r.count (selected r)

abbrev pub file_text : PoolFile → List ℕ
file_text f = request_text (file_request f)

-- "A refusal prints `refused N` alone."
unfoldable pub refused_text : ℕ → List ℕ
refused_text n = ascii "refused " ++ (decimal n ++ ascii "\n")
