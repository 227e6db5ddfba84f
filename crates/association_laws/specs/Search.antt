-- The search for the nearest line, after n lines: the line, and the square of its distance.
use Rattle.std.specs.Prelude.{ℕ, ◌≡◌, not, T, Float}
use Rattle.std.specs.Float.{binary64}
use Rattle.std.specs.Float.Ieee.{lt, fits}
use Rattle.model.specs.declared.Edition.{Edition}
use Rattle.model.specs.Association.{measure_of, nearest_of}
use Rattle.float_laws.proofs.Constants.{nought}

-- a double that is not below 0, or a NaN
pub record Square (s : Float) : Type 0 where
  pub held : T (fits binary64 s)
  pub low : T (not (lt s nought))

pub record Found (e : Edition) (d : ℕ → Float) (n line : ℕ) (squares : Float) : Type 0 where
  pub nearest : line ≡ (nearest_of d n).line
  pub measured : measure_of e squares ≡ (nearest_of d n).distance
  pub held : T (fits binary64 squares)
