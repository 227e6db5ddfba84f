-- From a selection's answer to the listing's: there is room for every list that is handed out.
use Prim.Native.Nat.{ℕ, ◌≤◌}
use mathlib.Core.Path.{◌≡◌, ap, sym, subst, ◌∙◌}
use mathlib.Core.List.{List}
use Rattle.std.specs.Prelude.{Option, None, Ok, Err}
use native.Mathlib.Omega.{arith}
use lib.Ieee.{binary64, div, of_bits}
use lib.ListN.{length, take, replicate}
use Rattle.model.specs.declared.Refusal.{Refusal}
use Rattle.model.specs.Real.{infinity}
use Rattle.model.specs.declared.Edition.TheVariants.{First}
use Rattle.model.specs.Edition.{most_plans}
use Rattle.model.specs.Plan.{max_objectives}
use Rattle.model.specs.Association.{Request}
use Rattle.model.specs.Kept.{selected}
use Rattle.model.specs.Refusal.{max_size, select_refusal}
use Rattle.model.specs.Calls.{Lent, room_of, SelectExit, select_accepted, select_by, select_of, Selects, max_text, refused_by}
use Rattle.nsga3_laws.specs.Admitted.{Admitted}
use Rattle.nsga3_laws.proofs.Admitted.{admitted}
use Rattle.pool_laws.proofs.Printed.{selected-short}
use Rattle.pool_laws.specs.Text.{listed}
use Rattle.model.specs.PoolFile.{listing_text, request_text}
use Rattle.list_laws.proofs.Built.{take-replicate}
use Rattle.niching_laws.proofs.KeptLength.{kept-length}
use Rattle.pool_laws.specs.Choice.{exit, text_exit, roomy, list_exit}
use Rattle.pool_laws.proofs.Listed.{listing-over}
use Rattle.pool_laws.proofs.Refusals.{list-refused, list_written}

-- ---- the ideal starts at infinity

pub ideal-start : (m : ℕ) → m ≤ max_objectives
    → take m (replicate max_objectives (div binary64 (of_bits binary64 4607182418800017408) (of_bits binary64 0))) ≡ replicate m infinity
unfolding div of_bits
ideal-start m h = take-replicate m max_objectives infinity h

-- ---- a selection's answer, by cases

module _ {r : Request} {entry : Lent} {x : SelectExit} (p : Selects r entry x) (k : room_of entry ≡ roomy) where
  -- the answer tells the refusal, or that there is none
  told : select_refusal r roomy ≡ refused_by x.answer.outcome
  told = ap (select_refusal r) (sym k) ∙ sym p.refused

  pub refused-exit : (n : Refusal) (out : List ℕ) → x.answer.outcome ≡ Err n → exit (Err n) out ≡ list_exit r out
  refused-exit n out h = sym (list-refused r out n (told ∙ ap refused_by h))

  -- a selection of edition 1 that went through
  module _ (first : r.edition ≡ First) {n : ℕ} (h : x.answer.outcome ≡ Ok n) where
    accepted : select_refusal r roomy ≡ None
    accepted = told ∙ ap refused_by h

    limits : Admitted r roomy
    limits = admitted r roomy accepted

    went : x ≡ select_accepted r entry
    unfolding select_of
    went = p.whole ∙ ap (λ (t : Option Refusal). select_by t r entry) (ap (select_refusal r) k ∙ accepted)

    size : n ≡ r.size
    unfolding select_accepted
    size =
        let q : Ok n ≡ Ok (length (selected r).kept) = sym h ∙ ap (λ (t : SelectExit). t.answer.outcome) went in
        let c : n ≡ length (selected r).kept = cc in
        c ∙ kept-length r

    -- ---- the listing's answer

    pub few-kept : n ≤ max_size
    few-kept = omega (arith, limits.few, size)

    pub few-plans : r.count ≤ most_plans First
    few-plans = subst (λ e. r.count ≤ most_plans e) first limits.of_edition

    abbrev text : ℕ → List ℕ
    text count = listing_text count (listed (take n x.slices.kept) x.slices.fronts x.slices.lines)

    text_same : text r.count ≡ request_text r
    unfolding select_accepted
    text_same =
        listing-over r n size x.slices.kept x.slices.fronts x.slices.lines entry.kept entry.fronts entry.lines
        (ap (λ (t : SelectExit). t.slices.kept) went) (ap (λ (t : SelectExit). t.slices.fronts) went) (ap (λ (t : SelectExit). t.slices.lines) went)

    pub text-short : length (text r.count) ≤ max_text
    text-short = let a = limits in rw text_same (selected-short r a.few few-plans a.some_lines a.few_lines)

    pub listed-exit : (out : List ℕ) (count : ℕ) → count ≡ r.count → text_exit (text count) out ≡ list_exit r out
    listed-exit out count e = ap (λ (c : ℕ). text_exit (text c) out) e ∙ ap (λ (t : List ℕ). text_exit t out) text_same ∙ sym (list_written r out accepted)
