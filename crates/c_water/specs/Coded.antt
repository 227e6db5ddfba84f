-- What `price_water` leaves, in numbers and lists alone, as a program in another language takes it.
use Rattle.std.specs.Prelude.{ℕ, ◌≤◌, ◌<◌, ◌≡◌, List, length, get_or, take, None, Result}
use Rattle.model.specs.Calls.{value_or}
use Rattle.model.specs.declared.Refusal.{Refusal}
use Rattle.model.specs.Water.{Band, litres_at, total_of, price_refusal, PriceExit, prices_of}
use Rattle.export_laws.specs.Coded.{code_of, code_number}

pub record PricedWords : Type 0 where
  pub code : ℕ
  pub total : ℕ
  pub costs : List ℕ

abbrev pub priced_as : ℕ → ℕ → List ℕ → PricedWords
priced_as code total costs = record { code = code; total = total; costs = costs }

abbrev pub priced_words : ℕ → PriceExit → PricedWords
priced_words old e = priced_as (code_of e.answer) (value_or e.answer old) e.costs

-- THE PROMISE of `locustdomino_price_water`; `old` is the number that `total` had. The costs that it hands out are the first entries of `costs`, as many as
-- the kept list has
pub record PricesWords (litres : List ℕ) (bands : List Band) (kept entry : List ℕ) (old : ℕ) (exit : PricedWords) : Type 0 where
  pub whole : exit ≡ priced_words old (prices_of litres bands kept entry)
  pub refused : exit.code ≡ code_number (price_refusal litres bands kept (length entry))
  pub total : price_refusal litres bands kept (length entry) ≡ None → exit.total ≡ total_of (take (length kept) exit.costs)
  pub more : price_refusal litres bands kept (length entry) ≡ None → (i j : ℕ) → i < length kept → j < length kept
      → litres_at litres kept i ≤ litres_at litres kept j → get_or exit.costs i 0 ≤ get_or exit.costs j 0
