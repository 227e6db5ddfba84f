-- `choose` turns the file of a load down with nothing, where 13 does not apply.
use Prim.Native.Nat.{ℕ, zero, suc, ◌≤◌, ◌<◌}
use mathlib.Core.Path.{◌≡◌, refl, sym, ap, ◌∙◌, subst}
use mathlib.Core.Bool.{Bool, true, false, not, ◌&&◌, or-true}
use Rattle.std.specs.Prelude.{None}
use native.Mathlib.Omega.{arith}
use borrow.Author.Tests.{eq-eqb, le-leb, le-ltb, leb-true, ltb-false, not-false}
use lib.Dec.{leb}
use lib.Ieee.{eq}
use lib.ListN.{length, get_or, replicate, length-replicate}
use Rattle.model.specs.Lists.{all_in}
use Rattle.model.specs.Real.{infinity}
use Rattle.model.specs.Plan.{max_objectives, max_constraints}
use Rattle.model.specs.Association.{Request, objectives}
use Rattle.model.specs.PoolFile.{file_request, file_text, no_plan, max_file}
use Rattle.model.specs.declared.Edition.TheVariants.{First}
use Rattle.model.specs.Refusal.{first_of, bad_directions, bad_size, bad_divisions, bad_count, bad_pool, good_plan, good_entry, good_ideal, measurable, file_refusal}
use Rattle.model.specs.Calls.{max_text}
use Rattle.model.specs.Load.{Load, draw_plans, load_pool, load_text, bad_counts, bad_load}
use Rattle.list_laws.proofs.Bools.{and_left, and_right, and_both, or_left, or_right}
use Rattle.list_laws.proofs.Tests.{all_below-every}
use Rattle.reference_laws.proofs.Divisions.{allowed}
use Rattle.reference_laws.proofs.Count.{lines-some}
use Rattle.demand3_laws.proofs.Passed.{size-limits, count-limits}
use Rattle.pool_laws.proofs.Printed.{selected-short}
use Rattle.form_laws.proofs.Every.{every-at}
use Rattle.load_laws.proofs.Plans.{PlanOk, plans-drawn, plans-many, plan-good}

-- ---- what holds where 13 does not apply

pub record Counted (l : Load) : Type 0 where
  pub wide : 1 ≤ l.objectives
  pub narrow : l.objectives ≤ max_objectives
  pub size : bad_size l.size ≡ false
  pub divisions : bad_divisions l.objectives l.divisions ≡ false
  pub count : bad_count First l.count ≡ false
  pub constraints : l.constraints ≤ max_constraints

pub counted : (l : Load) → bad_counts l ≡ false → Counted l
unfolding bad_counts
counted l e =
    let m = l.objectives in
    let two = not-false (leb 1 m && leb m max_objectives) (or_left (not (leb 1 m && leb m max_objectives)) _ e) in
    let a = or_right (not (leb 1 m && leb m max_objectives)) _ e in
    let b = or_right (bad_size l.size) _ a in
    let c = or_right (bad_divisions m l.divisions) _ b in
    record {
      wide = leb-true 1 m (and_left (leb 1 m) _ two);
      narrow = leb-true m max_objectives (and_right (leb 1 m) _ two);
      size = or_left (bad_size l.size) _ a;
      divisions = or_left (bad_divisions m l.divisions) _ b;
      count = or_left (bad_count First l.count) _ c;
      constraints = ltb-false max_constraints l.constraints (or_right (bad_count First l.count) _ c);
    }

pub good-counts : (l : Load) → bad_load l ≡ false → Counted l
unfolding bad_load
good-counts l e = counted l (or_left (bad_counts l) _ e)

pub file_fits : (l : Load) → bad_load l ≡ false → length (load_text l) ≤ max_file
unfolding bad_load
file_fits l e = ltb-false max_file (length (load_text l)) (or_right (bad_counts l) _ e)

-- ---- equal entries

all_in-same : {A : Type 0} (f : A → Bool) (n : ℕ) (a : A) → f a ≡ true → all_in f (replicate n a) ≡ true
unfolding all_in
all_in-same f zero a e = refl
all_in-same f (suc n) a e = and_both _ _ e (all_in-same f n a e)

-- ---- test by test

module _ (l : Load) (ok : Counted l) where
  abbrev request : Request
  request = file_request (load_pool l)

  marks-many : objectives request ≡ l.objectives
  unfolding load_pool
  marks-many = length-replicate l.objectives 0

  not_2 : bad_directions request.marks ≡ false
  unfolding bad_directions load_pool
  not_2 =
      let m = l.objectives in
      rw (marks-many, le-leb 1 m ok.wide, le-leb m max_objectives ok.narrow, all_in-same (λ k. leb k 1) m 0 refl)

  not_3 : bad_size request.size ≡ false
  unfolding load_pool
  not_3 = ok.size

  not_4 : bad_divisions (objectives request) request.divisions ≡ false
  unfolding load_pool
  not_4 = ap (λ m. bad_divisions m l.divisions) marks-many ∙ ok.divisions

  not_7 : bad_count First request.count ≡ false
  unfolding load_pool
  not_7 = ok.count

  good-plan : (p : ℕ) → p < l.count → good_plan l.objectives (get_or (draw_plans l).value p no_plan) ≡ true
  good-plan p h =
      plan-good l.objectives l.constraints (get_or (draw_plans l).value p no_plan)
      (every-at (PlanOk l.objectives l.constraints) no_plan (draw_plans l).value (plans-drawn l) p (omega (arith, plans-many l))) ok.constraints

  start-good : good_ideal l.objectives (replicate l.objectives infinity) ≡ true
  unfolding good_ideal eq
  start-good = and_both _ _ (eq-eqb _ _ (length-replicate l.objectives infinity)) (all_in-same good_entry l.objectives infinity (or-true (measurable infinity)))

  not_8 : bad_pool request ≡ false
  unfolding bad_pool load_pool
  not_8 =
      let e = marks-many in
      ap not (and_both _ _ (all_below-every _ l.count (λ p h. ap (λ m. good_plan m (get_or (draw_plans l).value p no_plan)) e ∙ good-plan p h))
      (ap (λ m. good_ideal m (replicate l.objectives infinity)) e ∙ start-good))

  -- no listing is too long
  not_10 : length (file_text (load_pool l)) ≤ max_text
  not_10 =
      let four = allowed (objectives request) request.divisions not_4 in
      selected-short request (size-limits request.size not_3).1 (count-limits First request.count not_7).1
      (lines-some (objectives request) request.divisions (subst (λ m. 1 ≤ m) (sym marks-many) ok.wide)) four.lines

  pub none_refuses : file_refusal (load_pool l) max_text ≡ None
  unfolding file_refusal first_of
  none_refuses = rw (not_2, not_3, not_4, not_7, not_8, le-ltb max_text (length (file_text (load_pool l))) not_10)
