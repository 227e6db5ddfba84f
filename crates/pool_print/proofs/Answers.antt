-- From what `choose` answers with room for any text to the text that is printed.
use Prim.Native.Nat.{ℕ, ◌≤◌, ◌<◌}
use mathlib.Core.Path.{◌≡◌, ap, sym, subst, ◌∙◌}
use mathlib.Core.List.{List}
use Rattle.list_laws.proofs.Options.{some-ne-none}
use Rattle.std.specs.Prelude.{Option, None, Some, Result, Ok, Err}
use native.Mathlib.Omega.{arith}
use lib.ListN.{length, take, length-append}
use Rattle.model.specs.declared.Refusal.{Refusal}
use Rattle.model.specs.Lists.{over}
use Rattle.model.specs.PoolFile.{PoolFile, parse, refused_text}
use Rattle.model.specs.Refusal.{number_of, choose_refusal}
use Rattle.model.specs.Calls.{ChooseExit, text_of, choose_by, choose_of, printed_by, printed, max_text, Tells, Chooses, refused_by, handed_out}
use Rattle.pool_laws.proofs.Lengths.{refused-short}
use Rattle.pool_print.specs.Printing.{Prints}

prints : (file out after : List ℕ) (r : ℕ) → r ≡ length (printed file) → after ≡ over (printed file) out
    → (choose_refusal file max_text ≡ None → (f : PoolFile) → parse file ≡ Some f → f.size ≤ f.count → Tells f (take r after))
    → Prints file out after r
prints file out after r c a d =
    record {
      count = c;
      text = a;
      within = omega (arith, simp length-append at (ap length a));
      demand3 = d;
    }

module _ (file out : List ℕ) (x : ChooseExit) (p : Chooses file out x) (full : length out ≡ max_text) where
  by : (o : Option Refusal) → choose_refusal file max_text ≡ o → x ≡ choose_by o (text_of (parse file)) out
  unfolding choose_of
  by o h =
      p.whole ∙ ap (λ (n : ℕ). choose_by (choose_refusal file n) (text_of (parse file)) out) full
      ∙ ap (λ (t : Option Refusal). choose_by t (text_of (parse file)) out) h

  print_by : (o : Option Refusal) → choose_refusal file max_text ≡ o → printed file ≡ printed_by o (text_of (parse file))
  unfolding printed
  print_by o h = ap (λ (t : Option Refusal). printed_by t (text_of (parse file))) h

  -- what the answer tells of the refusal
  told : choose_refusal file max_text ≡ refused_by x.answer
  told = ap (choose_refusal file) (sym full) ∙ sym p.refused

  pub written : (n : ℕ) → x.answer ≡ Ok n → Prints file out x.out n
  written n h =
      let o = told ∙ ap refused_by h in
      let q : Ok n ≡ Ok (length (text_of (parse file))) = sym h ∙ ap (λ (t : ChooseExit). t.answer) (by None o) in
      let l : n ≡ length (text_of (parse file)) = cc in
      prints file out x.out n (l ∙ ap length (sym (print_by None o)))
      (ap (λ (t : ChooseExit). t.out) (by None o) ∙ ap (λ (t : List ℕ). over t out) (sym (print_by None o)))
      (λ e f read enough.
      subst (λ (y : Result ℕ Refusal). Tells f (handed_out y x.out)) h (p.demand3 (ap (choose_refusal file) full ∙ e) f read enough))

  refused-so : (n : Refusal) → x.answer ≡ Err n → (after : List ℕ) (r : ℕ) → r ≡ length (refused_text (number_of n)) → after ≡ over (refused_text (number_of n)) x.out
      → Prints file out after r
  refused-so n h after r c a =
      let o = told ∙ ap refused_by h in
      let t = print_by (Some n) o in
      prints file out after r (c ∙ ap length (sym t))
      (a ∙ ap (over (refused_text (number_of n))) (ap (λ (t : ChooseExit). t.out) (by (Some n) o)) ∙ ap (λ (s : List ℕ). over s out) (sym t))
      (λ e f read enough. absurd (some-ne-none n (sym o ∙ e)))

  pub refused : (n : Refusal) → x.answer ≡ Err n → (k : ℕ) → k ≡ number_of n → (after : List ℕ) (r : ℕ) → r ≡ length (refused_text k) → after ≡ over (refused_text k) x.out
      → Prints file out after r
  refused n h k e after r c a = refused-so n h after r (c ∙ ap (λ (j : ℕ). length (refused_text j)) e) (a ∙ ap (λ (j : ℕ). over (refused_text j) x.out) e)

-- a refusal's text has room
pub refusal-room : (n : ℕ) → n < 256 → length (refused_text n) ≤ max_text
refusal-room n h = let s = refused-short n (omega arith) in omega arith
