-- A file is bytes.
use Rattle.std.specs.Prelude.{ℕ, ◌<◌, List, length, get_or}

abbrev pub EachByte : List ℕ → Type 0
EachByte bytes = (i : ℕ) → i < length bytes → get_or bytes i 0 < 256
