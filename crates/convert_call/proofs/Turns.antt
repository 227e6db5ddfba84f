-- From what a turned file tells to the promise of `convert`.
use Prim.Native.Nat.{ℕ, ◌≤◌}
use mathlib.Core.Path.{◌≡◌, ap, sym, subst, ◌∙◌}
use mathlib.Core.Bool.{true, false}
use mathlib.Core.List.{List}
use Rattle.std.specs.Prelude.{Option, Result, Ok, Err}
use native.Mathlib.Omega.{arith}
use borrow.Author.Tests.{le-ltb}
use lib.ListN.{length, take}
use Rattle.model.specs.declared.Refusal.{Refusal}
use Rattle.model.specs.PoolFile.{rows, file_by, max_file, parse_by, second_file, opens_second}
use Rattle.model.specs.Calls.{ChooseExit, choose_by}
use Rattle.model.specs.Convert.{forwards_text, forwards_refusal, backwards_text, backwards_refusal, converted_text, convert_refusal, convert_of, Converts}
use Rattle.pool_laws.specs.Choice.{exit, text_exit}
use Rattle.convert_file.specs.Files.{TurnedIs}
use Rattle.convert_laws.proofs.Converts.{converts}
use Rattle.pool_bytes.specs.Bytes.{EachByte}

-- ---- by the file's opening

pub opens_back : (file text : List ℕ) (r : Result ℕ Refusal) → opens_second file ≡ true
    → TurnedIs (backwards_refusal (parse_by second_file file)) (backwards_text (parse_by second_file file)) text r
    → TurnedIs (convert_refusal file) (converted_text file) text r
unfolding convert_refusal converted_text
opens_back file text r e t = rw e t

pub opens_on : (file text : List ℕ) (r : Result ℕ Refusal) → opens_second file ≡ false
    → TurnedIs (forwards_refusal (parse_by (file_by rows) file)) (forwards_text (parse_by (file_by rows) file)) text r
    → TurnedIs (convert_refusal file) (converted_text file) text r
unfolding convert_refusal converted_text
opens_on file text r e t = rw e t

-- ---- the answer

module _ (file out text : List ℕ) (r : Result ℕ Refusal) (t : TurnedIs (convert_refusal file) (converted_text file) text r) (bytes : EachByte file) where
  told : (x : Result ℕ Refusal) → r ≡ x → TurnedIs (convert_refusal file) (converted_text file) text x
  told x e = subst (TurnedIs (convert_refusal file) (converted_text file) text) e t

  pub refused : (n : Refusal) → r ≡ Err n → Converts file out (exit (Err n) out)
  unfolding convert_of
  refused n e = converts file out _ (sym (ap (λ (o : Option Refusal). choose_by o (converted_text file) out) (told (Err n) e))) bytes

  pub text-within : (n : ℕ) → r ≡ Ok n → n ≤ length text
  text-within n e = let w = (told (Ok n) e).1 in omega (arith, w.ends, w.within)

  pub handed_out : (n : ℕ) → r ≡ Ok n → length text ≡ max_file → length out ≡ max_file → (x : ChooseExit) → x ≡ text_exit (take n text) out → Converts file out x
  unfolding convert_of
  handed_out n e full room x h =
      let k = told (Ok n) e in
      let w = k.1 in
      let s : take n text ≡ converted_text file = w.stands in
      let l : length (converted_text file) ≤ length out = omega (arith, w.within) in
      converts file out x
      (h ∙ ap (λ (y : List ℕ). text_exit y out) s ∙ rw (le-ltb (length out) (length (converted_text file)) l) (sym (ap (λ (o : Option Refusal). choose_by o (converted_text file) out) k.0)))
      bytes
