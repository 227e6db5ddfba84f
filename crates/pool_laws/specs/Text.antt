-- A text put into a lent slice, and the listing's parts in model's words.
use Rattle.std.specs.Prelude.{ℕ, ◌+◌, ◌<◌, ◌≡◌, cond, List, [], ◌∷◌, ◌++◌, eqb, length, get_or}
use Rattle.model.specs.Kept.{Selected}
use Rattle.model.specs.PoolFile.{decimal, line_text}

-- a selection of which the listing shows these lists
abbrev pub listed : List ℕ → List ℕ → List ℕ → Selected
listed kept fronts lines = record { kept = kept; rules = []; fronts = fronts; lines = lines; ideal = []; state = 0 }

-- four texts, one after the other
pub record Four : Type 0 where
  pub first : List ℕ
  pub second : List ℕ
  pub third : List ℕ
  pub fourth : List ℕ

abbrev pub joined : Four → List ℕ
joined t = t.first ++ (t.second ++ (t.third ++ t.fourth))

-- a word and the byte that ends it: a space (32) or the newline (10)
abbrev pub ended : List ℕ → ℕ → List ℕ
ended word end = word ++ (end ∷ [])

-- the words `plans`, `kept` and `refused`, each with its space
abbrev pub plans_word : List ℕ
plans_word = 112 ∷ 108 ∷ 97 ∷ 110 ∷ 115 ∷ 32 ∷ []

abbrev pub kept_word : List ℕ
kept_word = 107 ∷ 101 ∷ 112 ∷ 116 ∷ 32 ∷ []

abbrev pub refused_word : List ℕ
refused_word = 114 ∷ 101 ∷ 102 ∷ 117 ∷ 115 ∷ 101 ∷ 100 ∷ 32 ∷ []

-- the header: two of the words, each with its number
abbrev pub headings : ℕ → ℕ → Four
headings count kept = record { first = plans_word; second = ended (decimal count) 32; third = kept_word; fourth = ended (decimal kept) 10 }

-- a plan's line: its index, its front, its reference line and its place
abbrev pub fields : ℕ → ℕ → ℕ → ℕ → Four
fields p front line place = record {
  first = ended (decimal p) 32;
  second = ended (decimal front) 32;
  third = ended (line_text line) 32;
  fourth = ended (decimal place) 10;
}

unfoldable pub fields_text : ℕ → ℕ → ℕ → ℕ → List ℕ
fields_text p front line place = joined (fields p front line place)

abbrev pub fields_of : List ℕ → List ℕ → List ℕ → ℕ → List ℕ
fields_of fronts lines places p = fields_text p (get_or fronts p 0) (get_or lines p 0) (get_or places p 0)

-- plan p is marked as kept at place i + 1, unless it is marked already or there is no room for it
pub record Marked (before : List ℕ) (p i : ℕ) (after : List ℕ) : Type 0 where
  pub same : length after ≡ length before
  pub here : p < length before → get_or after p 0 ≡ cond (eqb (get_or before p 0) 0) (i + 1) (get_or before p 0)
  pub others : (q : ℕ) → (q ≡ p → ⊥) → get_or after q 0 ≡ get_or before q 0
