-- The answer of a selection, from what its steps leave.
use Prim.Native.Nat.{ℕ, ◌*◌, ◌-◌, ◌≤◌}
use mathlib.Core.Path.{◌≡◌, ap, ap₂, sym, subst, ◌∙◌}
use mathlib.Core.Bool.{Bool}
use mathlib.Core.List.{List, ◌++◌}
use native.Mathlib.Omega.{arith}
use lib.Ieee.{Float}
use lib.ListN.{length, take, replicate}
use Rattle.std.specs.Prelude.{Result, Ok, Err}
use Rattle.model.specs.declared.Refusal.{Refusal}
use Rattle.model.specs.declared.Edition.{Edition}
use Rattle.model.specs.declared.Rng.{Rng}
use Rattle.model.specs.declared.Rule.TheVariants as rule
use Rattle.model.specs.Lists.{over}
use Rattle.model.specs.Plan.{Plan}
use Rattle.model.specs.Association.{Request}
use Rattle.model.specs.Refusal.{select_refusal}
use Rattle.niching_laws.proofs.KeptLength.{kept-length, fronts-all}
use Rattle.model.specs.Kept.{before, is_split, by_split, selected_whole, selected, padding, without_line, mark_of}
use Rattle.model.specs.Calls.{Lent, lent, room_of, SelectExit, select_exit, laid, word_request, answered, select_accepted, select_by, select_of, Selects, refused_by}
use Rattle.demand3_laws.proofs.Calls.{plan_at-row, selects}
use Rattle.front_cut.specs.declared.Cut.{Cut}
use Rattle.plan_rows.specs.Filled.{RowsFilled}
use Rattle.plan_rows.proofs.Rows.{rows-values}
use Rattle.pool_sort.specs.Laid.{RowsIn, OrderIn, Sorts}
use Rattle.nsga3_laws.specs.Admitted.{Admitted}
use Rattle.nsga3_laws.proofs.Admitted.{admitted}
use Rattle.nsga3.specs.Handed.{Hands}

module _ (r : Request) (i : List Float) (k₀ k u₀ u l₀ l : List ℕ) (s : ℕ) where
  -- ---- by whether a front is split

  pub hands_by : (b : Bool) → is_split r ≡ b → Hands (by_split b r) i k₀ k u₀ u l₀ l s → Hands (selected r) i k₀ k u₀ u l₀ l s
  unfolding selected
  hands_by b e h = subst (λ b. Hands (by_split b r) i k₀ k u₀ u l₀ l s) (sym e) h

  pub whole_hands : (order : List ℕ) (c : Cut) → OrderIn r order c → (n : ℕ) → n ≡ r.count → i ≡ r.ideal
      → k ≡ over (take c.whole order ++ (padding n (r.size - c.whole) r.state).value) k₀
      → u ≡ over (replicate c.whole (mark_of rule.WholeFront) ++ replicate (r.size - c.whole) (mark_of rule.Padding)) u₀ → l ≡ over (replicate n without_line) l₀
      → s ≡ (padding n (r.size - c.whole) r.state).state → Hands (selected_whole r) i k₀ k u₀ u l₀ l s
  unfolding selected_whole
  whole_hands order c sorted n e a b m d f = record {
    ideal = a;
    kept = b ∙ ap₂ (λ t p. over (t ++ p.value) k₀) sorted.cut.listed padded;
    rules = m ∙ ap (λ w. over (replicate w (mark_of rule.WholeFront) ++ replicate (r.size - w) (mark_of rule.Padding)) u₀) sorted.cut.whole;
    lines = d ∙ ap (λ t. over (replicate t without_line) l₀) e;
    state = f ∙ ap (λ p. p.state) padded;
  }
    where
      padded : padding n (r.size - c.whole) r.state ≡ padding r.count (r.size - length (before r)) r.state
      padded = ap₂ (λ t w. padding t (r.size - w) r.state) e sorted.cut.whole

-- ---- the rows

pub rows_in : (marks : List ℕ) (plans : ℕ → Plan) (n k : ℕ) → n ≡ k → (old rows : List Float) → k * length marks ≤ length rows
    → RowsFilled marks plans n old rows → RowsIn marks plans k rows
rows_in marks plans n k e old rows h f = record { table = h; values = λ p j a b. rows-values marks plans n old rows f p j (omega (arith, e)) b }

-- ---- the answer

pub accepted-exit : (r : Request) (o : List ℕ) (c : Cut) (i : List Float) (k₀ k u₀ u f₀ f l₀ l : List ℕ) (g : Rng) → Sorts r o c f₀ f
    → Hands (selected r) i k₀ k u₀ u l₀ l g.s
    → select_exit (record { outcome = Ok r.size; rng = g }) i (lent k u f l) ≡ select_accepted r (lent k₀ u₀ f₀ l₀)
unfolding select_accepted
accepted-exit r o c i k₀ k u₀ u f₀ f l₀ l g a h =
    ap₂ (λ s j. select_exit (answered (Ok r.size) s) j (lent k u f l)) h.state h.ideal
    ∙ ap₂ (λ x y. select_exit (answered (Ok r.size) (selected r).state) (selected r).ideal (lent x u f y)) h.kept h.lines
    ∙ ap₂ (λ x y. select_exit (answered (Ok r.size) (selected r).state) (selected r).ideal (lent (over (selected r).kept k₀) x y (over (selected r).lines l₀)))
    h.rules (a.ranks ∙ ap (λ t. over t f₀) (sym (fronts-all r)))
    ∙ ap (λ n. select_exit (answered (Ok n) (selected r).state) (selected r).ideal (laid (selected r) (lent k₀ u₀ f₀ l₀)))
    (sym (kept-length r))

module _ (edition : Edition) (pool directions : List ℕ) (divisions size : ℕ) (g : Rng) (ideal : List Float) (entry : Lent) where
  abbrev r : Request
  r = word_request edition pool directions divisions size g ideal

  promise : (x : SelectExit) → x ≡ select_of r entry → Selects r entry x
  promise x e = subst (Selects r entry) (sym e) (selects r (plan_at-row pool) entry)

  -- by what the check answers
  module _ {k : Result Unit Refusal} (e : refused_by k ≡ select_refusal r (room_of entry)) where
    pub refused : (n : Refusal) → k ≡ Err n → Selects r entry (record { answer = record { outcome = Err n; rng = g }; ideal = ideal; slices = entry })
    unfolding select_of
    refused n v = promise _ (ap (λ o. select_by o r entry) (sym (ap refused_by v) ∙ e))

    pub limits-kept : k ≡ (Ok tt) → Admitted r (room_of entry)
    limits-kept v = admitted r (room_of entry) (sym e ∙ ap refused_by v)

    pub selected_so : k ≡ (Ok tt) → (x : SelectExit) → x ≡ select_accepted r entry → Selects r entry x
    unfolding select_of
    selected_so v x h = promise x (h ∙ ap (λ o. select_by o r entry) (sym (ap refused_by v) ∙ e))
