-- The whole file: its header and its plans.
use Prim.Native.Nat.{ℕ}
use mathlib.Core.Path.{◌≡◌, refl, ap, sym, ◌∙◌}
use mathlib.Core.List.{List, ◌∷◌, ◌++◌}
use lib.ListN.{replicate}
use Rattle.model.specs.PoolFile.{written_all, file_numbers, first_form}
use Rattle.model.specs.Load.{Load, ahead, draw_plans, load_pool, load_text}
use Rattle.form_laws.proofs.Lists.{written-append}
use Rattle.pool_form.specs.Form.{Adds}
use Rattle.pool_form.proofs.Pieces.{adds_then, adds_as}
use Rattle.load_draws.specs.Drawing.{draw_many, plans_numbers, Draws}

abbrev pub header_numbers : Load → ℕ → List ℕ
header_numbers l seed = l.objectives ∷ l.divisions ∷ l.size ∷ l.count ∷ seed ∷ replicate l.objectives 0

pub text_numbers : (l : Load) → load_text l ≡ written_all (header_numbers l (draw_plans l).state ++ plans_numbers (draw_plans l).value)
unfolding load_text first_form file_numbers load_pool
text_numbers l = refl

pub whole : (l : Load) (start seed : ℕ) → start ≡ ahead l.skip l.seed → seed ≡ (draw_many l.objectives l.constraints l.count start).state
    → (o₀ : List ℕ) (o₁ : List ℕ) (r₁ : ℕ) (o₂ : List ℕ) (r₂ t : ℕ) → Adds (written_all (header_numbers l seed)) o₀ 0 o₁ r₁
    → Draws plans_numbers (draw_many l.objectives l.constraints l.count start) o₁ r₁ o₂ r₂ t → Adds (load_text l) o₀ 0 o₂ r₂
unfolding draw_plans
whole l start seed e f o₀ o₁ r₁ o₂ r₂ t h d =
    adds_as o₀ o₂ 0 r₂ _ _
    (sym (written-append (header_numbers l seed) _)
    ∙ ap (λ k. written_all (header_numbers l k ++ plans_numbers (draw_many l.objectives l.constraints l.count start).value)) f
    ∙ ap (λ s. let p = draw_many l.objectives l.constraints l.count s in written_all (header_numbers l p.state ++ plans_numbers p.value)) e
    ∙ sym (text_numbers l))
    (adds_then o₀ o₁ o₂ 0 r₁ r₂ _ _ h d.puts)
