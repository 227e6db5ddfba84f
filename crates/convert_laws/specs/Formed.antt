-- What a file that was read holds: words, as many of them as its counts say, and settings that keep their form.
use Rattle.std.specs.Prelude.{ℕ, ◌≡◌, true, length}
use Rattle.model.specs.Plan.{Setting}
use Rattle.model.specs.PoolFile.{File, Numbered, good_setting}
use Rattle.form_laws.specs.Writable.{Every, Word, Words, RowsOk}

pub record SettingOk (x : Setting) : Type 0 where
  pub param : Word x.param
  pub kind : Word x.kind
  pub value : Word x.value
  pub good : good_setting x ≡ true

-- a plan of m values in the second edition
pub record NumberedOk (m : ℕ) (p : Numbered) : Type 0 where
  pub number : Word p.number
  pub rows : RowsOk m p.rows
  pub count : Word (length p.settings)
  pub settings : Every SettingOk p.settings

-- a file, by what holds of each of its plans
pub record FileOk {P : Type 0} (PlanOk : ℕ → P → Type 0) (f : File P) : Type 0 where
  pub objectives : Word f.objectives
  pub divisions : Word f.divisions
  pub size : Word f.size
  pub count : Word f.count
  pub seed : Word f.seed
  pub marks : Words f.marks
  pub marks_long : length f.marks ≡ f.objectives
  pub plans : Every (PlanOk f.objectives) f.plans
  pub plans_long : length f.plans ≡ f.count
