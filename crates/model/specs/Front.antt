-- Document 01, "Front list". The pool has n plans, 0 to n - 1, and d p q says that plan p dominates plan q.
use Rattle.std.specs.Prelude.{ℕ, zero, suc, ◌-◌, Bool, ◌&&◌, List, [], ◌∷◌, ◌++◌, eqb}
use Rattle.model.specs.Lists.{one, count_below, keep_below, first_below, list_below, join_below, has}

-- a front, and for each plan how many of its dominators no front before this one holds
pub record Round : Type 0 where
  pub members : List ℕ
  pub counts : ℕ → ℕ

-- "each member of a front, in order, lowers the count of those it dominates": the counts after member p
unfoldable pub lower : (ℕ → ℕ → Bool) → ℕ → (ℕ → ℕ) → ℕ → ℕ
lower d p counts q = counts q - one (d p q)

-- member p brings plan q's count to zero
abbrev pub frees : (ℕ → ℕ → Bool) → ℕ → (ℕ → ℕ) → ℕ → Bool
frees d p counts q = d p q && eqb (lower d p counts q) 0

-- "rising index; whoever reaches zero joins the next front in that moment's order"
unfoldable pub freed : (ℕ → ℕ → Bool) → ℕ → ℕ → (ℕ → ℕ) → List ℕ
freed d n p counts = keep_below (frees d p counts) n

-- the same for all members of a front, one after the other
unfoldable pub lower_all : (ℕ → ℕ → Bool) → List ℕ → (ℕ → ℕ) → ℕ → ℕ
lower_all d [] counts = counts
lower_all d (p ∷ ps) counts = lower_all d ps (lower d p counts)

unfoldable pub freed_all : (ℕ → ℕ → Bool) → ℕ → List ℕ → (ℕ → ℕ) → List ℕ
freed_all d n [] counts = []
freed_all d n (p ∷ ps) counts = freed d n p counts ++ freed_all d n ps (lower d p counts)

-- "Front 0 holds the undominated in rising index."
unfoldable pub first_round : (ℕ → ℕ → Bool) → ℕ → Round
first_round d n = record {
  members = keep_below (λ q. eqb (count_below (λ p. d p q) n) 0) n;
  counts = λ q. count_below (λ p. d p q) n;
}

unfoldable pub next_round : (ℕ → ℕ → Bool) → ℕ → Round → Round
next_round d n r = record {
  members = freed_all d n r.members r.counts;
  counts = lower_all d r.members r.counts;
}

unfoldable pub round : (ℕ → ℕ → Bool) → ℕ → ℕ → Round
round d n zero = first_round d n
round d n (suc k) = next_round d n (round d n k)

-- front k, which is empty once a front before it is
abbrev pub front : (ℕ → ℕ → Bool) → ℕ → ℕ → List ℕ
front d n k = (round d n k).members

-- the first k fronts, one after the other
abbrev pub listing : (ℕ → ℕ → Bool) → ℕ → ℕ → List ℕ
listing d n k = join_below (front d n) k

-- the front that plan p is in, and that of each plan
unfoldable pub front_of : (ℕ → ℕ → Bool) → ℕ → ℕ → ℕ
front_of d n p = first_below (λ k. has (front d n k) p) n

unfoldable pub front_list : (ℕ → ℕ → Bool) → ℕ → List ℕ
front_list d n = list_below (front_of d n) n
