-- What an edition measures by, in the paper's words: the perpendicular distance of a point from a line, or its square.
use Rattle.std.specs.Prelude.{ℕ, cond, Float}
use Rattle.model.specs.declared.Edition.{Edition}
use Rattle.model.specs.Edition.{takes_root}
use Rattle.model.specs.Papers.DebJain2014.{perpendicular, perpendicular_square}

-- document 02, M-105: "\"Nearest\" in edition 2 is read by squares"
abbrev pub perpendicular_by : Edition → ℕ → (ℕ → Float) → (ℕ → Float) → Float
perpendicular_by e m s w = cond (takes_root e) (perpendicular m s w) (perpendicular_square m s w)
