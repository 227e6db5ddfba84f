-- The file of a load reads back as the plans drawn.
use Prim.Native.Nat.{ℕ, ◌≤◌}
use mathlib.Core.Path.{◌≡◌, ap, sym, ◌∙◌, subst}
use mathlib.Core.Bool.{false}
use mathlib.Core.List.{List, [], ◌∷◌, ◌++◌, flatten, append-nil, map-map}
use Rattle.std.specs.Prelude.{Some}
use native.Mathlib.Omega.{arith}
use borrow.Author.Tests.{ne_eqb}
use lib.Dec.{lit<}
use lib.ListN.{length, length-replicate}
use Rattle.model.specs.Plan.{Plan, max_objectives}
use Rattle.model.specs.PoolFile.{written_all, row_numbers, file_numbers, first_form, plan, pool_file, max_file, opens_second, parse}
use Rattle.model.specs.Load.{Load, draw_plans, load_pool, rows_of, load_text}
use Rattle.convert_laws.proofs.Editions.{opens_with}
use Rattle.form_laws.specs.Writable.{Word, Writable}
use Rattle.form_laws.proofs.Every.{every-same, every_weaker}
use Rattle.form_laws.proofs.Forms.{parsed-back}
use Rattle.load_laws.specs.Words.{LoadWords}
use Rattle.load_laws.proofs.States.{plans-word}
use Rattle.load_laws.proofs.Plans.{PlanOk, plans-drawn, plans-many, plan-back}

-- the numbers that stand for a plan
abbrev plan_numbers : Plan → List ℕ
plan_numbers p = row_numbers (rows_of p)

text_is : (l : Load) → load_text l ≡ written_all (file_numbers plan_numbers (load_pool l))
unfolding load_text first_form file_numbers
text_is l =
    let f = load_pool l in
    ap (λ ps. written_all (f.objectives ∷ f.divisions ∷ f.size ∷ f.count ∷ f.seed ∷ (f.marks ++ flatten ps))) (map-map row_numbers rows_of f.plans)

module _ (l : Load) (words : LoadWords l) where
  writable : Writable plan plan_numbers (load_pool l)
  unfolding load_pool
  writable = record {
    objectives = words.objectives;
    divisions = words.divisions;
    size = words.size;
    count = words.count;
    seed = plans-word l words.seed;
    marks_long = length-replicate l.objectives 0;
    marks = every-same Word l.objectives 0 (lit< tt);
    plans_long = plans-many l;
    plans = every_weaker (PlanOk l.objectives l.constraints) _ (draw_plans l).value (λ p ok. plan-back l.objectives l.constraints p ok words.constraints) (plans-drawn l);
  }

  abbrev text : List ℕ
  text = written_all (file_numbers plan_numbers (load_pool l))

  -- it opens with a number of objectives that is no 64, so it is of the first edition
  opens_first : l.objectives ≤ max_objectives → opens_second text ≡ false
  unfolding load_pool
  opens_first few =
      ap opens_second (sym (append-nil text)) ∙ opens_with plan_numbers (load_pool l) [] ∙ ne_eqb l.objectives 64 (λ z. omega arith)

  -- READ BACK
  pub load-reads : l.objectives ≤ max_objectives → length (load_text l) ≤ max_file → parse (load_text l) ≡ Some (load_pool l)
  unfolding parse pool_file
  load-reads few h =
      let e = text_is l in
      ap (λ t. parse t) e ∙ rw (opens_first few) (parsed-back plan plan_numbers (load_pool l) writable (subst (λ t. length t ≤ max_file) e h))
