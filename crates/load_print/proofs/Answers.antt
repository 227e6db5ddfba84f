-- From what `write_load` answers with room for any file to what is printed.
use Prim.Native.Nat.{ℕ, ◌≤◌, ◌<◌}
use mathlib.Core.Path.{◌≡◌, ap, sym, subst, ◌∙◌}
use mathlib.Core.List.{List}
use Rattle.list_laws.proofs.Options.{some-ne-none}
use Rattle.std.specs.Prelude.{Option, None, Some, Result, Ok, Err}
use native.Mathlib.Omega.{arith}
use lib.ListN.{length, take, length-append}
use Rattle.model.specs.Refusal.{number_of}
use Rattle.model.specs.declared.Refusal.{Refusal}
use Rattle.model.specs.Lists.{over}
use Rattle.model.specs.PoolFile.{refused_text, max_file}
use Rattle.model.specs.Calls.{ChooseExit, choose_by, printed_by, refused_by, handed_out}
use Rattle.model.specs.Load.{Load, parse_load, text_of_load, load_refusal, load_of, load_printed, Holds, Loads}
use Rattle.pool_laws.proofs.Lengths.{refused-short}
use Rattle.load_print.specs.Printing.{Prints}

prints : (bytes out after : List ℕ) (r : ℕ) → r ≡ length (load_printed bytes) → after ≡ over (load_printed bytes) out
    → (load_refusal bytes max_file ≡ None → (l : Load) → parse_load bytes ≡ Some l → Holds l (take r after)) → Prints bytes out after r
prints bytes out after r c a h =
    record {
      count = c;
      text = a;
      within = omega (arith, simp length-append at (ap length a));
      holds = h;
    }

module _ (bytes out : List ℕ) (x : ChooseExit) (p : Loads bytes out x) (full : length out ≡ max_file) where
  by : (o : Option Refusal) → load_refusal bytes max_file ≡ o → x ≡ choose_by o (text_of_load (parse_load bytes)) out
  unfolding load_of
  by o h =
      p.whole ∙ ap (λ (n : ℕ). choose_by (load_refusal bytes n) (text_of_load (parse_load bytes)) out) full
      ∙ ap (λ (t : Option Refusal). choose_by t (text_of_load (parse_load bytes)) out) h

  print_by : (o : Option Refusal) → load_refusal bytes max_file ≡ o → load_printed bytes ≡ printed_by o (text_of_load (parse_load bytes))
  unfolding load_printed
  print_by o h = ap (λ (t : Option Refusal). printed_by t (text_of_load (parse_load bytes))) h

  -- what the answer tells of the refusal
  told : load_refusal bytes max_file ≡ refused_by x.answer
  told = ap (load_refusal bytes) (sym full) ∙ sym p.refused

  pub written : (n : ℕ) → x.answer ≡ Ok n → Prints bytes out x.out n
  written n h =
      let o = told ∙ ap refused_by h in
      let q : Ok n ≡ Ok (length (text_of_load (parse_load bytes))) = sym h ∙ ap (λ (t : ChooseExit). t.answer) (by None o) in
      let l : n ≡ length (text_of_load (parse_load bytes)) = cc in
      prints bytes out x.out n (l ∙ ap length (sym (print_by None o)))
      (ap (λ (t : ChooseExit). t.out) (by None o) ∙ ap (λ (t : List ℕ). over t out) (sym (print_by None o)))
      (λ e f read. subst (λ (y : Result ℕ Refusal). Holds f (handed_out y x.out)) h (p.holds (ap (load_refusal bytes) full ∙ e) f read))

  refused-so : (n : Refusal) → x.answer ≡ Err n → (after : List ℕ) (r : ℕ) → r ≡ length (refused_text (number_of n)) → after ≡ over (refused_text (number_of n)) x.out
      → Prints bytes out after r
  refused-so n h after r c a =
      let o = told ∙ ap refused_by h in
      let t = print_by (Some n) o in
      prints bytes out after r (c ∙ ap length (sym t))
      (a ∙ ap (over (refused_text (number_of n))) (ap (λ (t : ChooseExit). t.out) (by (Some n) o)) ∙ ap (λ (s : List ℕ). over s out) (sym t))
      (λ e f read. absurd (some-ne-none n (sym o ∙ e)))

  pub refused : (n : Refusal) → x.answer ≡ Err n → (k : ℕ) → k ≡ number_of n → (after : List ℕ) (r : ℕ) → r ≡ length (refused_text k) → after ≡ over (refused_text k) x.out
      → Prints bytes out after r
  refused n h k e after r c a = refused-so n h after r (c ∙ ap (λ (j : ℕ). length (refused_text j)) e) (a ∙ ap (λ (j : ℕ). over (refused_text j) x.out) e)

-- a refusal's text has room
pub refusal-room : (n room : ℕ) → room ≡ max_file → n < 256 → length (refused_text n) ≤ room
refusal-room n room full h = let s = refused-short n (omega arith) in omega arith
