-- The plans drawn: each has its m values and c constraints, its numbers are words and are read back as the plan, and refusal 8 lets it pass.
use Prim.Native.Nat.{ℕ, ◌≤◌}
use mathlib.Core.Path.{◌≡◌, refl, sym, ap, ap₂, ◌∙◌, subst}
use mathlib.Core.Bool.{true}
use mathlib.Core.List.{List, [], ◌∷◌, map}
use borrow.Author.Tests.{eq-eqb, le-leb}
use lib.Ieee.{Float}
use lib.ListN.{length, length-map}
use Rattle.model.specs.Lists.{all_in}
use Rattle.model.specs.Real.{real, bits}
use Rattle.model.specs.Draw.{Drawn, draw_f64, draw_all}
use Rattle.model.specs.Plan.{Plan, measured_plan, max_constraints}
use Rattle.model.specs.PoolFile.{pure, plan, measured, row_numbers}
use Rattle.model.specs.Refusal.{measurable, good_plan}
use Rattle.model.specs.Load.{Load, draw_constraint, draw_plan, draw_plans, rows_of}
use Rattle.list_laws.proofs.Bools.{and_both}
use Rattle.list_laws.proofs.Draws.{draw_all-keeps, draw_all-length}
use Rattle.form_laws.specs.Writable.{Every, ReadBack, Word, Words, RowsOk}
use Rattle.form_laws.proofs.Every.{every_append, every_map, every_weaker}
use Rattle.form_laws.proofs.Lists.{then_read}
use Rattle.form_laws.proofs.Forms.{rows_back}
use Rattle.load_laws.proofs.Values.{Value, value-drawn, constraint_drawn, value-measurable, value-word, value-back}

-- what is drawn in turn is of a kind where each draw is
every-drawn : {A : Type 0} (P : A → Type 0) (next : ℕ → List A → ℕ → Drawn A) (n s : ℕ) → ((i : ℕ) (l : List A) (t : ℕ) → P (next i l t).value)
    → Every P (draw_all next n s).value
every-drawn P next n s each =
    (draw_all-keeps next (λ i l. Every P l) s n tt (λ i l t h e p. every_append P l ((next i l t).value ∷ []) p (each i l t, tt))).1

-- ---- a plan of m values and c constraints, each drawn

pub record PlanOk (m c : ℕ) (p : Plan) : Type 0 where
  pub form : p ≡ measured_plan m p.row c p.constraints
  pub whole : length p.row ≡ m
  pub all : length p.constraints ≡ c
  pub values : Every Value p.row
  pub constraints : Every Value p.constraints

plan-drawn : (m c s : ℕ) → PlanOk m c (draw_plan m c s).value
unfolding draw_plan
plan-drawn m c s = record {
  form = refl;
  whole = draw_all-length (λ j values. draw_f64) m s;
  all = draw_all-length (λ j values. draw_constraint) c _;
  values = every-drawn Value (λ j values. draw_f64) m s (λ i l t. value-drawn t);
  constraints = every-drawn Value (λ j values. draw_constraint) c _ (λ i l t. constraint_drawn t);
}

pub plans-drawn : (l : Load) → Every (PlanOk l.objectives l.constraints) (draw_plans l).value
unfolding draw_plans
plans-drawn l = every-drawn _ (λ p plans. draw_plan l.objectives l.constraints) l.count _ (λ i b t. plan-drawn l.objectives l.constraints t)

pub plans-many : (l : Load) → length (draw_plans l).value ≡ l.count
unfolding draw_plans
plans-many l = draw_all-length (λ p plans. draw_plan l.objectives l.constraints) l.count _

-- ---- its numbers

values-words : (l : List Float) → Every Value l → Words (map bits l)
values-words l e = every_map Word bits l (every_weaker Value (λ x. Word (bits x)) l value-word e)

values-back : (l : List Float) → Every Value l → map real (map bits l) ≡ l
values-back [] e = refl
values-back (x ∷ l) e = ap₂ (λ y t. y ∷ t) (value-back x e.0) (values-back l e.1)

module _ (m c : ℕ) (p : Plan) (ok : PlanOk m c p) where
  count_is : length (map bits p.constraints) ≡ c
  count_is = length-map p.constraints bits ∙ ok.all

  rows_ok : Word c → RowsOk m (rows_of p)
  rows_ok w = record {
    whole = length-map p.row bits ∙ ok.whole;
    values = values-words p.row ok.values;
    count = subst Word (sym count_is) w;
    constraints = values-words p.constraints ok.constraints;
  }

  -- as a reader of the file's plans measures them
  measured-back : measured m (rows_of p) ≡ p
  measured-back =
      ap (λ row. measured_plan m row (length (map bits p.constraints)) (map real (map bits p.constraints))) (values-back p.row ok.values)
      ∙ ap₂ (λ n l. measured_plan m p.row n l) count_is (values-back p.constraints ok.constraints) ∙ sym ok.form

  pub plan-back : Word c → ReadBack (plan m) (λ p. row_numbers (rows_of p)) p
  unfolding plan
  plan-back w rest = then_read (λ r. pure (measured m r)) _ (rows_of p) rest (rows_back m (rows_of p) rest (rows_ok w)) ∙ ap (λ q. pure q rest) measured-back

  -- ---- refusal 8

  pub plan-good : c ≤ max_constraints → good_plan m p ≡ true
  unfolding good_plan all_in
  plan-good h = and_both _ _ (eq-eqb p.row_length m (ap (λ (q : Plan). q.row_length) ok.form))
      (and_both _ _ (le-leb p.constraint_count max_constraints (subst (λ n. n ≤ max_constraints) (sym (ap (λ (q : Plan). q.constraint_count) ok.form)) h))
      (and_both _ _ (all-measurable p.row ok.values) (all-measurable p.constraints ok.constraints)))
    where
      all-measurable : (l : List Float) → Every Value l → all_in measurable l ≡ true
      all-measurable [] e = refl
      all-measurable (x ∷ l) e = and_both _ _ (value-measurable x e.0) (all-measurable l e.1)
