-- What is handed out in numbers is what the call leaves, coded.
use Prim.Native.Nat.{ℕ}
use mathlib.Core.Path.{◌≡◌, refl, ap, ap₂, ◌∙◌}
use mathlib.Core.List.{List}
use Rattle.std.specs.Prelude.{Some, Result}
use lib.ListN.{length}
use Rattle.model.specs.Calls.{value_or}
use Rattle.model.specs.declared.Refusal.{Refusal}
use Rattle.model.specs.Lists.{all_in}
use Rattle.model.specs.Water.{Band, price_refusal, price_exit, Prices}
use Rattle.export_laws.proofs.Export.{number-told}
use Rattle.export_laws.specs.Coded.{code_of}
use Rattle.c_water.specs.Coded.{priced_as, priced_words, PricesWords}

pub price_coded : (litres : List ℕ) (bands : List Band) (kept entry : List ℕ) (old : ℕ) (answer : Result ℕ Refusal) (exit : List ℕ) (total code : ℕ)
    → Prices litres bands kept entry (price_exit answer exit) → total ≡ value_or answer old → code ≡ code_of answer
    → PricesWords litres bands kept entry old (priced_as code total exit)
price_coded litres bands kept entry old answer exit total code p t c =
    record {
      whole = ap₂ (λ x y. priced_as x y exit) c t ∙ ap (priced_words old) p.whole;
      refused = number-told code _ _ c p.refused;
      total = λ e. t ∙ ap (λ a. value_or a old) (p.total e);
      more = p.more;
    }
