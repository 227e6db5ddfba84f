-- DEMAND 3 and M-108 as the public calls promise them: a call that is not refused hands out a kept list that meets the one, and beside it rules that meet the
-- other.
use Prim.Native.Nat.{ℕ, ◌+◌, ◌*◌, ◌≤◌}
use mathlib.Core.Path.{◌≡◌, refl, ap, sym, subst}
use mathlib.Core.Bool.{true, false}
use mathlib.Core.List.{List}
use Rattle.std.specs.Prelude.{Option, None, Some}
use native.Mathlib.Omega.{arith}
use lib.ListN.{length, get_or, take, length-take}
use borrow.Author.Tests.{le-ltb}
use Rattle.model.specs.declared.Refusal.{Refusal}
use Rattle.model.specs.declared.Distribution.{Distribution}
use Rattle.model.specs.Lists.{over}
use Rattle.model.specs.Plan.{plan_at, plan_words}
use Rattle.model.specs.Association.{Request, objectives}
use Rattle.model.specs.Kept.{Selected, selected}
use Rattle.model.specs.Setting.{Operators, Generation, generation, generation_of, WordsWithin}
use Rattle.model.specs.Session.{State, bred_from, breeds, request_of}
use Rattle.model.specs.Property.{SessionOk}
use Rattle.model.specs.Refusal.{Room, bad_directions, bad_divisions, bad_pool, select_refusal, step_refusal, sample_refusal}
use Rattle.model.specs.Demand3.{Demand3}
use Rattle.model.specs.Rules.{Ruled}
use Rattle.model.specs.Calls.{refused_by, Lent, room_of, handed_out, select_accepted, select_by, select_of, Selects, step_accepted, step_by, step_of, Steps}
use Rattle.list_laws.proofs.Built.{over-take}
use Rattle.list_laws.proofs.Checks.{pool-plan}
use Rattle.front_laws.proofs.Plans.{InWords, in_words, words-accepted}
use Rattle.demand3_laws.specs.Facts.{Accepted}
use Rattle.demand3_laws.proofs.Passed.{some-objectives, select_passed, passed, sample_passed}
use Rattle.demand3_laws.proofs.Accepted.{demand3, ruled}

-- ---- plans that lie in a slice of words

pub plan_at-row : (words : List ℕ) (p : ℕ) → InWords (plan_at words p)
plan_at-row words p = in_words (λ j. get_or words (p * plan_words + j) 0)

word-accepted : (r : Request) → ((p : ℕ) → InWords (r.plans p)) → bad_directions r.marks ≡ false → bad_divisions (objectives r) r.divisions ≡ false → bad_pool r ≡ false
    → Accepted r
word-accepted r words directions divisions pool =
    record {
      directions = directions;
      divisions = divisions;
      pool = pool;
      rows = λ p h.
          (words-accepted (objectives r) (r.plans p) (some-objectives r.marks directions).1 (words p) (pool-plan r pool p h)).whole;
    }

-- ---- the answers tell the refusal, or that there is none

pub select_refused : (r : Request) (at : Lent) (o : Option Refusal) → refused_by (select_by o r at).answer.outcome ≡ o
unfolding select_accepted
select_refused r at None = refl
select_refused r at (Some n) = refl

step-refused : (o : Operators) (r : Request) (at : Lent) (offspring : List ℕ) (n : Option Refusal) → refused_by (step_by n o r at offspring).answer.outcome ≡ n
unfolding step_accepted
step-refused o r at offspring None = refl
step-refused o r at offspring (Some n) = refl

-- ---- the first entries of the slices that a selection lays its two lists over

module _ (r : Request) (kept rules : List ℕ) where
  ruled-over : (k u : List ℕ) → Ruled r kept rules → Ruled r (take (length kept) (over kept k)) (take (length kept) (over rules u))
  ruled-over k u d =
      subst (λ (l : List ℕ). Ruled r l (take (length kept) (over rules u))) (sym (over-take kept k (length kept) refl))
      (subst (Ruled r kept) (sym (over-take rules u (length kept) d.long)) d)

-- ---- a generation step from two plans on breeds, and keeps what a selection keeps

pub generation-many : (o : Operators) (r : Request) → 2 ≤ r.count → generation o r ≡ generation_of o r
unfolding generation
generation-many o r h = rw (le-ltb r.count 2 h)

-- so it hands out what a selection does
pub generation_selects : (o : Operators) (r : Request) → 2 ≤ r.count → (generation o r).selection ≡ selected r
unfolding generation_of
generation_selects o r h = ap (λ (g : Generation). g.selection) (generation-many o r h)

-- ---- `nsga3_select`

module _ (r : Request) (words : (p : ℕ) → InWords (r.plans p)) where
  pub select_accepted_lem : (room : Room) → select_refusal r room ≡ None → Accepted r
  select_accepted_lem room e = let p = select_passed r room e in word-accepted r words p.directions p.divisions p.pool

  pub selects : (entry : Lent) → Selects r entry (select_of r entry)
  unfolding select_of select_accepted
  selects entry = record {
    whole = refl;
    refused = select_refused r entry (select_refusal r (room_of entry));
    demand3 = λ e enough. go e (demand3 r (select_accepted_lem (room_of entry) e) enough);
    ruled = λ e. rules e (ruled r (select_accepted_lem (room_of entry) e));
  }
    where
      go : select_refusal r (room_of entry) ≡ None → Demand3 r (selected r).kept
          → Demand3 r (handed_out (select_of r entry).answer.outcome (select_of r entry).slices.kept)
      go e d = rw e (subst (Demand3 r) (sym (over-take (selected r).kept entry.kept (length (selected r).kept) refl)) d)

      rules : select_refusal r (room_of entry) ≡ None → Ruled r (selected r).kept (selected r).rules
          → Ruled r (handed_out (select_of r entry).answer.outcome (select_of r entry).slices.kept)
          (handed_out (select_of r entry).answer.outcome (select_of r entry).slices.rules)
      rules e d = rw e (ruled-over r (selected r).kept (selected r).rules entry.kept entry.rules d)

  -- ---- `nsga3_generate_offspring`

  pub step-accepted : (o : Operators) (room : Room) (offspring : ℕ) → step_refusal o r room offspring ≡ None → Accepted r
  step-accepted o room offspring e = let p = passed o r room offspring e in word-accepted r words p.directions p.divisions p.pool

  -- what a step owes beside: its offspring lie within their bounds
  pub steps : (o : Operators) (entry : Lent) (offspring : List ℕ)
      → (step_refusal o r (room_of entry) (length offspring) ≡ None → WordsWithin o.dims o.dim_count r.size (step_of o r entry offspring).offspring)
      → Steps o r entry offspring (step_of o r entry offspring)
  unfolding step_of step_accepted
  steps o entry offspring bounds =
      record {
        whole = refl;
        refused = step-refused o r entry offspring (step_refusal o r (room_of entry) (length offspring));
        demand3 = λ e two enough. go e (subst (Demand3 r) (sym (ap (λ (s : Selected). s.kept) (generation_selects o r two))) (demand3 r (step-accepted o (room_of entry) (length offspring) e) enough));
        ruled = λ e two. rules e (subst (λ (s : Selected). Ruled r s.kept s.rules) (sym (generation_selects o r two)) (ruled r (step-accepted o (room_of entry) (length offspring) e)));
        bounds = bounds;
      }
    where
      rules : step_refusal o r (room_of entry) (length offspring) ≡ None → Ruled r (generation o r).selection.kept (generation o r).selection.rules
          → Ruled r (handed_out (step_of o r entry offspring).answer.outcome (step_of o r entry offspring).slices.kept)
          (handed_out (step_of o r entry offspring).answer.outcome (step_of o r entry offspring).slices.rules)
      rules e d = rw e (ruled-over r (generation o r).selection.kept (generation o r).selection.rules entry.kept entry.rules d)

      go : step_refusal o r (room_of entry) (length offspring) ≡ None → Demand3 r (generation o r).selection.kept
          → Demand3 r (handed_out (step_of o r entry offspring).answer.outcome (step_of o r entry offspring).slices.kept)
      go e d = rw e (subst (Demand3 r) (sym (over-take (generation o r).selection.kept entry.kept (length (generation o r).selection.kept) refl)) d)

-- ---- `sample`

-- the objectives and divisions of the selection that a session makes, which is accepted where 8 does not apply
module _ (st : State) (history : List ℕ) (ok : SessionOk st) where
  pub request-objectives : objectives (request_of st history) ≡ st.session.config.n_obj
  request-objectives = omega (arith, length-take st.session.config.n_obj st.session.config.directions, ok.config.objectives)

  pub request-divisions : bad_divisions (objectives (request_of st history)) st.session.config.divisions ≡ false
  request-divisions = rw request-objectives ok.config.divisions

  pub request-accepted : bad_pool (request_of st history) ≡ false → Accepted (request_of st history)
  request-accepted pool = word-accepted (request_of st history) (plan_at-row (bred_from st history)) ok.config.directions request-divisions pool

-- the list of the selection that it makes, where a call breeds, from at least as many plans as the size
pub sample_demand3 : (st : State) (d : Distribution) (plan : ℕ) (history : List ℕ) → SessionOk st → sample_refusal st d plan history ≡ None → breeds st history ≡ true
    → (request_of st history).size ≤ (request_of st history).count → Demand3 (request_of st history) (selected (request_of st history)).kept
sample_demand3 st d plan history ok e bred enough =
    let pool : bad_pool (request_of st history) ≡ false = rw bred at (sample_passed st d plan history e).pool in
    demand3 (request_of st history) (request-accepted st history ok pool) enough
