-- What the clause of an iterator chain says, as the tests of the definitions: of each and of some entry of a list, and of each and of some number below n. A proof
-- finds the equivalence by `search (rules, chains)`, over a range by `search (rules, ranges)`.
use Rattle.std.specs.Prelude.{ℕ, ◌<◌, ◌≡◌, ◌↔◌, Bool, List, IsTrue}
use Rattle.std.specs.List.{All}
use Rattle.model.specs.Lists.{all_in, all_below, any_below}
use Rattle.list_laws.proofs.Bools.{both_ways}
use Rattle.list_laws.proofs.Tests.{all_in-each, all_in-every, all_below-each, all_below-every, any_below-at, any_below-some}

-- `all` over a list; d is any entry
pub all_in-chain : {A : Type 0} (f : A → Bool) (d : A) (xs : List A) (r : Bool) → (IsTrue r ↔ All (λ x. IsTrue (f x)) xs) → r ≡ all_in f xs
all_in-chain f d xs r h = both_ways r (all_in f xs)
    (λ e. all_in-every f d xs (λ k v. h.0 e k d v))
    (λ e. h.1 (λ k x v. all_in-each f x xs e k v))

-- `all` over a range
pub all_below-chain : (f : ℕ → Bool) (n : ℕ) (r : Bool) → (IsTrue r ↔ ((k : ℕ) → k < n → IsTrue (f k))) → r ≡ all_below f n
all_below-chain f n r h = both_ways r (all_below f n) (λ e. all_below-every f n (h.0 e)) (λ e. h.1 (all_below-each f n e))

-- `any` over a range
pub any_below-chain : (f : ℕ → Bool) (n : ℕ) (r : Bool) → (IsTrue r ↔ ((k : ℕ) × (k < n) × IsTrue (f k))) → r ≡ any_below f n
any_below-chain f n r h = both_ways r (any_below f n)
    (λ e. let w = h.0 e in any_below-at f n w.0 w.1 w.2)
    (λ e. h.1 (any_below-some f n e))
