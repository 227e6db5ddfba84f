-- A setting's word, moved to its dimension's step.
use Rattle.std.specs.Prelude.{ℕ}
use Rattle.model.specs.declared.Distribution.{Distribution}
use Rattle.model.specs.Setting.{kind_of_dimension, of_word, to_word, move_setting}

abbrev pub moved_word : Distribution → ℕ → ℕ
moved_word d w = to_word (move_setting d (of_word (kind_of_dimension d) w))
