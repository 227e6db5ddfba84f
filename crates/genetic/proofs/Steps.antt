-- The steps' outcomes as the definitions have them.
use mathlib.Core.Path.{◌≡◌, sym, ap, ◌∙◌}
use mathlib.Core.Bool.{Bool, cond, not}
use mathlib.Core.List.{List}
use Prim.Native.Nat.{ℕ}
use lib.Dec.{leb}
use lib.Ieee.{Float, lt}
use Rattle.model.specs.declared.Distribution.{Distribution}
use Rattle.model.specs.declared.ParamValue.{ParamValue}
use Rattle.model.specs.Draw.{Drawn, drawn, draw_usize}
use Rattle.list_laws.proofs.Draws.{drawn_tested, drawn-more}
use Rattle.model.specs.Setting.{children, draw_unit, cross_all, crossover, tournament}

-- ---- crossover

module _ (dims : ℕ → Distribution) (n : ℕ) (probability : Float) (k : ℕ) (p q : List ParamValue) (s : ℕ) (u : Float) (t : ℕ) (d : drawn u t ≡ draw_unit s) where
  pub crossover-by : (b : Bool) → lt probability u ≡ b → cond (not b) (cross_all dims n p q k t) (drawn (children p q) t) ≡ crossover dims n probability k p q s
  unfolding crossover
  crossover-by b h = drawn_tested (λ (c : Bool) (r : ℕ). cond (not c) (cross_all dims n p q k r) (drawn (children p q) r)) (lt probability) d h

-- ---- the tournament

pub tournament_is : (ranks : ℕ → ℕ) (n s i t j u : ℕ) (b : Bool) → drawn i t ≡ draw_usize n s → drawn j u ≡ draw_usize n t → leb (ranks i) (ranks j) ≡ b → drawn (cond b i j) u ≡ tournament ranks n s
unfolding tournament
tournament_is ranks n s i t j u b e f h =
    ap (λ (c : Bool). drawn (cond c i j) u) (sym h) ∙ drawn-more (λ (x y : ℕ). cond (leb (ranks x) (ranks y)) x y) (λ (d : Drawn ℕ). draw_usize n d.state) e f
