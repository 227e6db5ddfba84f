-- What is proved of the plans picked for the open places. `before` are the plans already kept (the whole fronts), `front` is the split front, `picked` are
-- the plans of it that were picked so far, in order, and `line` gives each plan its line.
use Rattle.std.specs.Prelude.{ℕ, zero, suc, ◌+◌, ◌≤◌, ◌<◌, ◌≡◌, ◌≢◌, List, [], ◌∷◌, ◌++◌, Float, length, get_or, take}
use Rattle.model.specs.Lists.{In, Distinct}
use Rattle.model.specs.Kept.{niche_count, waiting_number, mark_of, rule_of}
use Rattle.model.specs.Papers.DebJain2014.{Reached}
use Rattle.model.specs.Demand3.{sum_squares}

-- the setting: different plans in the split front, none of them kept before, each on a line below `lines`
pub record Split (before front : List ℕ) (line : ℕ → ℕ) (lines : ℕ) : Type 0 where
  pub distinct : Distinct front
  pub apart : (p : ℕ) → In p front → In p before → ⊥
  pub inside : (p : ℕ) → In p front → line p < lines

-- ---- picks, with the random choices left open

-- p is a member of the split front that is not picked yet
pub record Waiting (front picked : List ℕ) (p : ℕ) : Type 0 where
  pub member : In p front
  pub unpicked : In p picked → ⊥

-- some picked plan is on the line l
pub record Served (line : ℕ → ℕ) (picked : List ℕ) (l : ℕ) : Type 0 where
  pub plan : ℕ
  pub listed : In plan picked
  pub on_line : line plan ≡ l

-- some waiting plan is on the line l
pub record Waited (line : ℕ → ℕ) (front picked : List ℕ) (l : ℕ) : Type 0 where
  pub plan : ℕ
  pub waits : Waiting front picked plan
  pub on_line : line plan ≡ l

-- p may be picked next: it waits, and no line with a waiting member has a lower count than p's
pub record Pick (before front : List ℕ) (line : ℕ → ℕ) (picked : List ℕ) (p : ℕ) : Type 0 where
  pub waits : Waiting front picked p
  pub least : (l : ℕ) → Waited line front picked l → niche_count line (before ++ picked) (line p) ≤ niche_count line (before ++ picked) l

-- `picked` is built by n picks, one after the other
pub data Run (before front : List ℕ) (line : ℕ → ℕ) : ℕ → List ℕ → Type 0 where
  start : Run before front line zero []
  next : {n : ℕ} {picked : List ℕ} {p : ℕ} → Run before front line n picked → Pick before front line picked p
      → Run before front line (suc n) (picked ++ (p ∷ []))

-- ---- what is claimed

-- "lowered as each is taken" (document 02, M-104): once p is picked, the number of p's line is one less, and that of every other line as it was
pub record Lowered (line : ℕ → ℕ) (front picked : List ℕ) (p : ℕ) : Type 0 where
  pub own : waiting_number line front picked (line p) ≡ waiting_number line front (picked ++ (p ∷ [])) (line p) + 1
  pub others : (l : ℕ) → line p ≢ l → waiting_number line front (picked ++ (p ∷ [])) l ≡ waiting_number line front picked l

-- "\"Nearest\" is given exactly when the line's count was 0 at that pick" (document 02, M-108): each of the n marks is that of the niche count of the picked plan's
-- line among the plans listed before it
pub record RuledPicks (before : List ℕ) (line : ℕ → ℕ) (n : ℕ) (picked marks : List ℕ) : Type 0 where
  pub long : length marks ≡ n
  pub each : (i : ℕ) → i < n → get_or marks i 0 ≡ mark_of (rule_of (niche_count line (before ++ take i picked) (line (get_or picked i 0))))

-- `other` could fill n open places: it is n different plans of the split front
pub record Filling (front : List ℕ) (n : ℕ) (other : List ℕ) : Type 0 where
  pub size : length other ≡ n
  pub distinct : Distinct other
  pub members : (p : ℕ) → In p other → In p front

-- a served line counts at most one more than a line with a waiting member
abbrev pub Balanced : List ℕ → List ℕ → (ℕ → ℕ) → List ℕ → Type 0
Balanced before front line picked =
    (l w : ℕ) → Served line picked l → Waited line front picked w → niche_count line (before ++ picked) l ≤ niche_count line (before ++ picked) w + 1

-- no other filling of the n places has a smaller sum of squared counts
abbrev pub Least : List ℕ → List ℕ → (ℕ → ℕ) → ℕ → ℕ → List ℕ → Type 0
Least before front line lines n picked =
    (other : List ℕ) → Filling front n other
    → sum_squares lines (niche_count line (before ++ picked)) ≤ sum_squares lines (niche_count line (before ++ other))

-- what demand 3 asks of the plans picked for n open places
pub record Niched (before front : List ℕ) (line : ℕ → ℕ) (lines n : ℕ) (picked : List ℕ) : Type 0 where
  pub fills : Filling front n picked
  pub apart : (p : ℕ) → In p picked → In p before → ⊥
  pub balance : Balanced before front line picked
  pub least : Least before front line lines n picked

-- the procedure of Deb and Jain can reach `picked`, with some lines that it no longer considers
pub record ByProcedure (before front : List ℕ) (line : ℕ → ℕ) (distance : ℕ → Float) (lines : ℕ) (picked : List ℕ) : Type 0 where
  pub excluded : List ℕ
  pub reached : Reached before front line distance lines excluded picked
