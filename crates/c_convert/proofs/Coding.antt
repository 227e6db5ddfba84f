-- What is handed out in numbers is what the call leaves, coded.
use Prim.Native.Nat.{ℕ, ◌≤◌}
use mathlib.Core.Path.{◌≡◌, refl, sym, ap, ap₂, subst, ◌∙◌}
use mathlib.Core.Bool.{Bool, true, ◌&&◌}
use mathlib.Core.List.{List}
use Rattle.list_laws.proofs.Options.{some-injective, none-ne-some}
use Rattle.std.specs.Prelude.{Option, None, Some, Result, Ok, Err}
use native.Mathlib.Omega.{arith}
use lib.Dec.{ltb, leb}
use lib.ListN.{length, take, length-append}
use Rattle.model.specs.declared.Refusal.{Refusal}
use Rattle.model.specs.Lists.{over}
use Rattle.model.specs.PoolFile.{max_file, first_form, File, Rows, Numbered, opens_second, parse_by, file_by, rows, second_file}
use Rattle.model.specs.Calls.{ChooseExit, choose_by, refused_by, handed_out, value_or}
use Rattle.model.specs.Convert.{second_form, forwards, turns_back, backwards, held_refusal, forwards_refusal, backwards_refusal, converted_text, convert_refusal, convert_of, Twins, Converts}
use Rattle.list_laws.proofs.Built.{over-take}
use Rattle.list_laws.proofs.Bools.{by_bool}
use Rattle.pool_laws.specs.Choice.{exit, text_refusal, text_exit}
use Rattle.export_laws.specs.Coded.{or_refusal, code_of, listed_as, listed}
use Rattle.export_laws.proofs.Export.{number-told, text-handed}
use Rattle.c_convert.specs.Coded.{into_refusal, convert_into, ConvertsInto, ConvertsWords}

-- ---- into a slice of any length

told-by : (o : Option Refusal) (text out : List ℕ) → refused_by (choose_by o text out).answer ≡ o
told-by None text out = refl
told-by (Some n) text out = refl

module _ (bytes out : List ℕ) where
  -- from what is left, and the twin where nothing is refused
  into : (x : ChooseExit) → x ≡ convert_into bytes out → (convert_refusal bytes ≡ None → Twins bytes (converted_text bytes)) → ConvertsInto bytes out x
  into x e t = record {
    whole = e;
    refused = ap (λ (y : ChooseExit). refused_by y.answer) e ∙ told-by (into_refusal bytes (length out)) (converted_text bytes) out;
    twins = λ h. subst (Twins bytes) (sym (handed h)) (t (first_none (convert_refusal bytes) _ h));
  }
    where
      first_none : (a b : Option Refusal) → or_refusal a b ≡ None → a ≡ None
      first_none None b h = refl
      first_none (Some n) b h = h

      handed : into_refusal bytes (length out) ≡ None → handed_out x.answer x.out ≡ converted_text bytes
      handed h =
          ap (λ (y : ChooseExit). handed_out y.answer y.out) (e ∙ ap (λ (o : Option Refusal). choose_by o (converted_text bytes) out) h)
          ∙ over-take (converted_text bytes) out (length (converted_text bytes)) refl

  module _ (before : List ℕ) (x : ChooseExit) (p : Converts bytes before x) where
    pub into_refused : (n : Refusal) → x.answer ≡ Err n → ConvertsInto bytes out (exit (Err n) out)
    into_refused n h =
        let o : convert_refusal bytes ≡ Some n = sym p.refused ∙ ap refused_by h in
        into _ (sym (ap (λ (r : Option Refusal). choose_by (or_refusal r (text_refusal (converted_text bytes) (length out))) (converted_text bytes) out) o))
        (λ e. absurd (none-ne-some n (sym e ∙ o)))

    -- what is written stands at the front
    good : (n : ℕ) → x.answer ≡ Ok n → convert_refusal bytes ≡ None
    good n h = sym p.refused ∙ ap refused_by h

    left : (n : ℕ) → x.answer ≡ Ok n → x ≡ choose_by None (converted_text bytes) before
    unfolding convert_of
    left n h = p.whole ∙ ap (λ (r : Option Refusal). choose_by r (converted_text bytes) before) (good n h)

    size : (n : ℕ) → x.answer ≡ Ok n → n ≡ length (converted_text bytes)
    size n h =
        let q : Ok n ≡ Ok (length (converted_text bytes)) = sym h ∙ ap (λ (t : ChooseExit). t.answer) (left n h) in
        cc

    text : (n : ℕ) → x.answer ≡ Ok n → x.out ≡ over (converted_text bytes) before
    text n h = ap (λ (t : ChooseExit). t.out) (left n h)

    pub within : (n : ℕ) → x.answer ≡ Ok n → n ≤ length x.out
    within n h = omega (arith, size n h, simp length-append at (ap length (text n h)))

    pub into_written : (n : ℕ) → x.answer ≡ Ok n → (y : ChooseExit) → y ≡ text_exit (take n x.out) out → ConvertsInto bytes out y
    into_written n h y e =
        let s : take n x.out ≡ converted_text bytes =
        ap (take n) (text n h) ∙ over-take (converted_text bytes) before n (sym (size n h)) in
        into y
        (e ∙ ap (λ (t : List ℕ). text_exit t out) s
        ∙ sym (ap (λ (r : Option Refusal). choose_by (or_refusal r (text_refusal (converted_text bytes) (length out))) (converted_text bytes) out) (good n h)))
        (λ z. subst (Twins bytes) (ap₂ (λ (a : Result ℕ Refusal) (l : List ℕ). handed_out a l) h refl ∙ s) (p.twins z))

pub convert_coded : (bytes old : List ℕ) (e : ChooseExit) (n k before : ℕ) → ConvertsInto bytes old e → k ≡ value_or e.answer before
    → n ≡ code_of e.answer → ConvertsWords bytes old before (listed_as n k e)
convert_coded bytes old e n k before s i h =
    record {
      whole = ap₂ (λ x y. listed_as x y e) h i ∙ ap (listed before) s.whole;
      refused = number-told n _ _ h s.refused;
      twins = λ a. subst (Twins bytes) (text-handed e.answer before e.out (s.refused ∙ a) ∙ sym (ap (λ x. take x e.out) i)) (s.twins a);
    }
