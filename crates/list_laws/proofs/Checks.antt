-- The first of some refusals that applies, and what a plan that refusal 8 lets pass keeps.
use Prim.Native.Nat.{ℕ, zero, suc, ◌≤◌, ◌<◌}
use mathlib.Core.Path.{◌≡◌, refl}
use mathlib.Core.Bool.{Bool, true, false, cond, ◌&&◌}
use mathlib.Core.List.{List, [], ◌∷◌}
use Rattle.list_laws.proofs.Options.{some-ne-none}
use Rattle.std.specs.Prelude.{None, Some, unwrap_or}
use borrow.Author.Tests.{eqb-true, leb-true, not-false}
use lib.Dec.{eqb, leb}
use lib.Ieee.{Float}
use lib.ListN.{length, get_or}
use Rattle.model.specs.declared.Refusal.{Refusal}
use Rattle.model.specs.declared.Refusal.TheVariants as why
use Rattle.model.specs.Lists.{all_in}
use Rattle.model.specs.Plan.{Plan, max_constraints}
use Rattle.model.specs.Association.{Request, objectives}
use Rattle.model.specs.Refusal.{Check, check, first_of, measurable, good_plan, good_plans, good_ideal, bad_pool}
use Rattle.list_laws.proofs.Tests.{all_below-each}
use Rattle.list_laws.proofs.Bools.{by_bool, and_left, and_right}

-- where none applies, each of them does not
not-given : (c : Check) (cs : List Check) → first_of (c ∷ cs) ≡ None → (c.applies ≡ false) × (first_of cs ≡ None)
unfolding first_of
not-given c cs e = go c.applies refl e
  where
    go : (b : Bool) → c.applies ≡ b → cond b (Some c.reason) (first_of cs) ≡ None → (c.applies ≡ false) × (first_of cs ≡ None)
    go true h k = absurd (some-ne-none c.reason k)
    go false h k = (h, k)

pub applies-at : (cs : List Check) (i : ℕ) → first_of cs ≡ None → (get_or cs i (check why.Form false)).applies ≡ false
applies-at [] i e = refl
applies-at (c ∷ cs) zero e = (not-given c cs e).0
applies-at (c ∷ cs) (suc i) e = applies-at cs i (not-given c cs e).1

-- one that does not apply is passed over, and what comes after two others counts by its own first
pub passed_over : (c : Check) (cs : List Check) → c.applies ≡ false → first_of (c ∷ cs) ≡ first_of cs
unfolding first_of
passed_over c cs e = rw e

pub after_two : (a b : Check) (cs ds : List Check) → first_of cs ≡ first_of ds → first_of (a ∷ b ∷ cs) ≡ first_of (a ∷ b ∷ ds)
unfolding first_of
after_two a b cs ds e = rw e

-- ---- refusal 8: the number of values, the number of constraints, the values and the constraints of a plan that it lets pass

module _ (m : ℕ) (p : Plan) (good : good_plan m p ≡ true) where
  pub good_length : p.row_length ≡ m
  unfolding good_plan
  good_length = eqb-true p.row_length m (and_left (eqb p.row_length m) _ good)

  after-length : (leb p.constraint_count max_constraints && (all_in measurable p.row && all_in measurable p.constraints)) ≡ true
  unfolding good_plan
  after-length = and_right (eqb p.row_length m) _ good

  pub good-constraints : p.constraint_count ≤ max_constraints
  good-constraints = leb-true p.constraint_count max_constraints (and_left (leb p.constraint_count max_constraints) _ after-length)

  after-count : (all_in measurable p.row && all_in measurable p.constraints) ≡ true
  after-count = and_right (leb p.constraint_count max_constraints) _ after-length

  pub good-values : all_in measurable p.row ≡ true
  good-values = and_left (all_in measurable p.row) _ after-count

  pub good_constraint_values : all_in measurable p.constraints ≡ true
  good_constraint_values = and_right (all_in measurable p.row) _ after-count

-- an ideal that it lets pass has as many entries as there are objectives
pub good-ideal-length : (m : ℕ) (ideal : List Float) → good_ideal m ideal ≡ true → length ideal ≡ m
unfolding good_ideal
good-ideal-length m ideal e = eqb-true (length ideal) m (and_left (eqb (length ideal) m) _ e)

-- where it does not apply, each plan and the ideal are good
module _ (r : Request) (e : bad_pool r ≡ false) where
  pub pool-plans : good_plans (objectives r) r.plans r.count ≡ true
  unfolding bad_pool
  pool-plans = and_left (good_plans (objectives r) r.plans r.count) _ (not-false _ e)

  pub pool-ideal : good_ideal (objectives r) r.ideal ≡ true
  unfolding bad_pool
  pool-ideal = and_right (good_plans (objectives r) r.plans r.count) _ (not-false _ e)

  pub pool-plan : (p : ℕ) → p < r.count → good_plan (objectives r) (r.plans p) ≡ true
  pool-plan = all_below-each (λ p. good_plan (objectives r) (r.plans p)) r.count pool-plans

-- one that applies is the first
pub applies-first : (c : Check) (cs : List Check) → c.applies ≡ true → first_of (c ∷ cs) ≡ Some c.reason
unfolding first_of
applies-first c cs e = rw e

-- the first of three checks, of which the last applies, by the first of the two before
pub then_last : (a b c : Check) → c.applies ≡ true → first_of (a ∷ b ∷ c ∷ []) ≡ Some (unwrap_or (first_of (a ∷ b ∷ [])) c.reason)
unfolding first_of
then_last a b c e = by_bool a.applies (λ p. rw p) (λ p. by_bool b.applies (λ q. rw (p, q)) (λ q. rw (p, q, e)))
