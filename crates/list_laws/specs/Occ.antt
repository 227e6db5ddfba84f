-- How often a number stands in a list.
use Rattle.std.specs.Prelude.{ℕ, ◌<◌, ◌≡◌, Bool, true, List, eqb}
use Rattle.model.specs.Lists.{tally, In, Distinct}

-- how often q stands in a list: "each exactly once" is then `occ q l ≡ one (test q)`, on which `omega` works
unfoldable pub occ : ℕ → List ℕ → ℕ
occ q l = tally (λ x. eqb x q) l

-- every entry of a list is below n
abbrev pub Below : ℕ → List ℕ → Type 0
Below n l = (q : ℕ) → In q l → q < n

-- a list of each number below n that passes a test, once, and no other
pub record Exactly (g : ℕ → Bool) (n : ℕ) (l : List ℕ) : Type 0 where
  pub distinct : Distinct l
  pub below : Below n l
  pub passes : (p : ℕ) → In p l → g p ≡ true
  pub every : (p : ℕ) → p < n → g p ≡ true → In p l
