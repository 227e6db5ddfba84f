-- THE PROMISE of `convert`, from what the call leaves.
use Prim.Native.Nat.{ℕ}
use mathlib.Core.Path.{◌≡◌, refl, ap, sym, subst, ◌∙◌}
use mathlib.Core.List.{List}
use Rattle.std.specs.Prelude.{Option, None, Some}
use lib.ListN.{length}
use Rattle.model.specs.declared.Refusal.{Refusal}
use Rattle.model.specs.Calls.{ChooseExit, choose_by, refused_by, handed_out}
use Rattle.model.specs.Convert.{converted_text, convert_refusal, convert_of, Twins, Converts}
use Rattle.list_laws.proofs.Built.{over-take}
use Rattle.pool_laws.proofs.Shortest.{Bytes}
use Rattle.convert_laws.proofs.Twins.{twins}

refused-by : (o : Option Refusal) (text out : List ℕ) → refused_by (choose_by o text out).answer ≡ o
refused-by None text out = refl
refused-by (Some n) text out = refl

module _ (bytes out : List ℕ) (x : ChooseExit) (e : x ≡ convert_of bytes out) where
  handed : convert_refusal bytes ≡ None → handed_out x.answer x.out ≡ converted_text bytes
  unfolding convert_of
  handed h =
      let text = converted_text bytes in
      ap (λ (y : ChooseExit). handed_out y.answer y.out) (e ∙ ap (λ (o : Option Refusal). choose_by o text out) h) ∙ over-take text out (length text) refl

  pub converts : Bytes bytes → Converts bytes out x
  unfolding convert_of
  converts b = record {
    whole = e;
    refused = ap (λ (y : ChooseExit). refused_by y.answer) e ∙ refused-by (convert_refusal bytes) (converted_text bytes) out;
    twins = λ h. subst (Twins bytes) (sym (handed h)) (twins bytes b h);
  }
