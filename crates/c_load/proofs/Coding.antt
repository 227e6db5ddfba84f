-- What is handed out in numbers is what the call leaves, coded.
use Prim.Native.Nat.{ℕ}
use mathlib.Core.Path.{◌≡◌, refl, sym, ap, ap₂, subst, ◌∙◌}
use mathlib.Core.List.{List}
use Rattle.std.specs.Prelude.{Option, None, Some}
use native.Mathlib.Omega.{arith}
use lib.ListN.{length, take}
use Rattle.model.specs.Lists.{all_in}
use Rattle.model.specs.Calls.{ChooseExit, value_or}
use Rattle.model.specs.Load.{Load, parse_load, filed_refusal, refusal_of_load, load_refusal, Holds, Loads}
use Rattle.export_laws.specs.Coded.{code_of, listed_as, listed}
use Rattle.export_laws.proofs.Export.{number-told, text-handed}
use Rattle.c_load.specs.Coded.{LoadsWords}

pub load_coded : (bytes old : List ℕ) (e : ChooseExit) (n k before : ℕ) → Loads bytes old e → k ≡ value_or e.answer before → n ≡ code_of e.answer
    → LoadsWords bytes old before (listed_as n k e)
load_coded bytes old e n k before s i h =
    record {
      whole = ap₂ (λ x y. listed_as x y e) h i ∙ ap (listed before) s.whole;
      refused = number-told n _ _ h s.refused;
      holds = λ a l g.
          subst (Holds l) (text-handed e.answer before e.out (s.refused ∙ a) ∙ sym (ap (λ x. take x e.out) i)) (s.holds a l g);
    }
