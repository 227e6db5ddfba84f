-- A setting that mutates or not, by its draw.
use Rattle.std.proofs.Common.{◌≡◌, ℕ, Bool, cond}
use lib.Ieee.{Float, le}
use Rattle.model.specs.declared.Distribution.{Distribution}
use Rattle.model.specs.declared.ParamValue.{ParamValue}
use Rattle.model.specs.Draw.{drawn}
use Rattle.model.specs.Setting.{draw_unit, mutate_one, mutate_maybe}
use Rattle.list_laws.proofs.Draws.{drawn_tested}

module _ (probability : Float) (d : Distribution) (v : ParamValue) (k s : ℕ) (u : Float) (t : ℕ) (e : drawn u t ≡ draw_unit s) where
  pub maybe_by : (b : Bool) → le probability u ≡ b → cond b (drawn v t) (mutate_one d v k t) ≡ mutate_maybe probability d v k s
  unfolding mutate_maybe
  maybe_by b h = drawn_tested (λ (c : Bool) (r : ℕ). cond c (drawn v r) (mutate_one d v k r)) (le probability) e h
