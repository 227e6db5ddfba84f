-- What is handed out in numbers is what the call leaves, coded.
use Prim.Native.Nat.{ℕ}
use mathlib.Core.Path.{◌≡◌, refl, sym, ap, ap₂, subst, ◌∙◌}
use mathlib.Core.List.{List}
use Rattle.list_laws.proofs.Options.{some-ne-none}
use Rattle.std.specs.Prelude.{Option, None, Some, Result, Ok, Err}
use lib.ListN.{length, take}
use Rattle.model.specs.declared.Refusal.{Refusal}
use Rattle.model.specs.Association.{Request}
use Rattle.model.specs.Demand3.{Demand3}
use Rattle.model.specs.Rules.{Ruled}
use Rattle.model.specs.Refusal.{select_refusal}
use Rattle.model.specs.Setting.{Operators}
use Rattle.model.specs.Calls.{Lent, room_of, refused_by, handed_out, SelectExit, Selects, select_of, select_accepted, StepExit, Steps, ChooseExit, Tells, Chooses, value_or}
use Rattle.niching_laws.proofs.KeptLength.{kept-length}
use Rattle.export_laws.specs.Coded.{SelectsWords, StepsWords, ListsWords, code_number, code_of, selected_as, selected, stepped_as, stepped, listed_as, listed}

-- the number that is told of an answer is that of the call's refusal
pub number-told : (n : ℕ) (given refusal : Option Refusal) → n ≡ code_number given → given ≡ refusal → n ≡ code_number refusal
number-told n given refusal h e = h ∙ ap code_number e

-- what an answer hands out that is no refusal is as long as the answer says
handed : (q : Request) (o : Result ℕ Refusal) (before : ℕ) (kept : List ℕ) → refused_by o ≡ None → Demand3 q (handed_out o kept) → Demand3 q (take (value_or o before) kept)
handed q (Ok n) before kept h d = d
handed q (Err n) before kept h d = absurd (some-ne-none n h)

rules-handed : (q : Request) (o : Result ℕ Refusal) (before : ℕ) (kept rules : List ℕ) → refused_by o ≡ None → Ruled q (handed_out o kept) (handed_out o rules)
    → Ruled q (take (value_or o before) kept) (take (value_or o before) rules)
rules-handed q (Ok n) before kept rules h d = d
rules-handed q (Err n) before kept rules h d = absurd (some-ne-none n h)

pub text-handed : (o : Result ℕ Refusal) (before : ℕ) (out : List ℕ) → refused_by o ≡ None → handed_out o out ≡ take (value_or o before) out
text-handed (Ok n) before out h = refl
text-handed (Err n) before out h = absurd (some-ne-none n h)

select_kept : (q : Request) (at : Lent) → select_refusal q (room_of at) ≡ None → (select_of q at).answer.outcome ≡ Ok q.size
unfolding select_of select_accepted
select_kept q at h = rw h (ap Ok (kept-length q))

pub select_coded : (q : Request) (at : Lent) (e : SelectExit) (n : ℕ) → Selects q at e → n ≡ code_of e.answer.outcome
    → SelectsWords q at (selected_as n e)
select_coded q at e n s h =
    record {
      whole = ap (λ k. selected_as k e) h ∙ ap selected s.whole;
      refused = number-told n _ _ h s.refused;
      demand3 = λ a enough.
          subst (λ x. Demand3 q (handed_out x e.slices.kept)) (ap (λ (x : SelectExit). x.answer.outcome) s.whole ∙ select_kept q at a) (s.demand3 a enough);
      ruled = λ a.
          subst (λ x. Ruled q (handed_out x e.slices.kept) (handed_out x e.slices.rules)) (ap (λ (x : SelectExit). x.answer.outcome) s.whole ∙ select_kept q at a) (s.ruled a);
    }

module _ (p : Operators) (q : Request) (at : Lent) (old : List ℕ) (e : StepExit) (n k before : ℕ) (s : Steps p q at old e)
    (i : k ≡ value_or e.answer.outcome before) (h : n ≡ code_of e.answer.outcome) where
  step_promise : StepsWords p q at old before (stepped_as n k e)
  step_promise =
      record {
        whole = ap₂ (λ x y. stepped_as x y e) h i ∙ ap (stepped before) s.whole;
        refused = number-told n _ _ h s.refused;
        demand3 = λ a two enough.
            subst (λ x. Demand3 q (take x e.slices.kept)) (sym i) (handed q e.answer.outcome before e.slices.kept (s.refused ∙ a) (s.demand3 a two enough));
        ruled = λ a two.
            subst (λ x. Ruled q (take x e.slices.kept) (take x e.slices.rules)) (sym i)
            (rules-handed q e.answer.outcome before e.slices.kept e.slices.rules (s.refused ∙ a) (s.ruled a two));
        bounds = s.bounds;
      }

pub step_coded : (o p : Operators) (q : Request) (at : Lent) (old : List ℕ) (e : StepExit) (n k before : ℕ) → o ≡ p → Steps o q at old e
    → k ≡ value_or e.answer.outcome before → n ≡ code_of e.answer.outcome
    → StepsWords p q at old before (stepped_as n k e)
step_coded o p q at old e n k before g s i h = step_promise p q at old e n k before (subst (λ x. Steps x q at old e) g s) i h

pub choose_coded : (file old : List ℕ) (e : ChooseExit) (n k before : ℕ) → Chooses file old e → k ≡ value_or e.answer before → n ≡ code_of e.answer
    → ListsWords file old before (listed_as n k e)
choose_coded file old e n k before s i h =
    record {
      whole = ap₂ (λ x y. listed_as x y e) h i ∙ ap (listed before) s.whole;
      refused = number-told n _ _ h s.refused;
      listing = λ a f g. ap (λ x. take x e.out) i ∙ sym (text-handed e.answer before e.out (s.refused ∙ a)) ∙ s.listing a f g;
      demand3 = λ a f g enough.
          subst (Tells f) (text-handed e.answer before e.out (s.refused ∙ a) ∙ sym (ap (λ x. take x e.out) i)) (s.demand3 a f g enough);
    }
