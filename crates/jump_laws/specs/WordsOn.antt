-- Document 02, M-106: "For all j and k, going j then k words on equals going (j + k) modulo 2^64 words on, and k = 1 is the plain step."
use Rattle.std.specs.Prelude.{ℕ, ◌+◌, ◌%◌, ◌^◌, ◌<◌, ◌≡◌}
use Rattle.model.specs.Draw.{step}
use Rattle.model.specs.Load.{ahead}

pub record WordsOn : Type 0 where
  pub sum : (j k s : ℕ) → s < 2 ^ 64 → ahead k (ahead j s) ≡ ahead ((j + k) % 2 ^ 64) s
  pub one : (s : ℕ) → ahead 1 s ≡ step s
