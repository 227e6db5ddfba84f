-- What the functions of the sort ask and promise, in the words of document 01's front list. `d p q` says that plan p dominates plan q.
use Rattle.std.specs.Prelude.{ℕ, suc, ◌+◌, ◌-◌, ◌≤◌, ◌<◌, ◌≡◌, Bool, cond, List, [], ◌∷◌, eqb, length, get_or, set}
use Rattle.std.proofs.Math.Seq.{slice}
use Rattle.model.specs.Lists.{one, count_below, tally, first_below, list_below, over}
use Rattle.model.specs.Front.{lower, freed, lower_all, freed_all, front, listing, front_list, frees}
use Rattle.list_laws.specs.Put.{Put, Picked}
use Rattle.front_laws.specs.Ranks.{mark}

-- the counts that a list holds
abbrev pub of : List ℕ → ℕ → ℕ
of cs t = get_or cs t 0

-- those whom p frees, at the counts that a list holds
abbrev pub freed_at : (ℕ → ℕ → Bool) → ℕ → ℕ → List ℕ → List ℕ
freed_at d n p cs = freed d n p (of cs)

-- plan q is to be compared with those before it, whose counts have room for it
pub record Countable (n q : ℕ) (cs : List ℕ) : Type 0 where
  pub plan : q < n
  pub counted : n ≤ length cs
  pub low : (t : ℕ) → t < q → get_or cs t 0 ≤ q

-- plan q has been compared with those before p: the counts of those that it dominates are raised, and r counts those that dominate q
pub record Raising (d : ℕ → ℕ → Bool) (q : ℕ) (cs₀ : List ℕ) (p : ℕ) (cs : List ℕ) (r : ℕ) : Type 0 where
  pub counts : cs ≡ over (list_below (λ t. get_or cs₀ t 0 + one (d q t)) p) cs₀
  pub result : r ≡ count_below (λ s. d s q) p

-- and with all before it
abbrev pub Raised : (ℕ → ℕ → Bool) → ℕ → List ℕ → List ℕ → ℕ → Type 0
Raised d q cs₀ cs r = Raising d q cs₀ q cs r

-- the plans below q have been compared with each other
abbrev pub Counted : (ℕ → ℕ → Bool) → ℕ → List ℕ → Type 0
Counted d q cs = (t : ℕ) → t < q → get_or cs t 0 ≡ count_below (λ s. d s t) q

-- one count lowered: q is listed at `at` if its count is now zero
pub record Freed (q at : ℕ) (cs₀ cs o₀ o : List ℕ) (r : ℕ) : Type 0 where
  pub counts : cs ≡ set cs₀ q (get_or cs₀ q 0 - 1)
  pub order : Put o₀ at (cond (eqb (get_or cs₀ q 0 - 1) 0) (q ∷ []) []) o r

-- p lowers no count below zero, and there is room for whom it frees
pub record Releasable (d : ℕ → ℕ → Bool) (n p at : ℕ) (cs o : List ℕ) : Type 0 where
  pub plan : p < n
  pub counted : n ≤ length cs
  pub fair : (t : ℕ) → t < n → one (d p t) ≤ get_or cs t 0
  pub room : at + length (freed_at d n p cs) ≤ length o

-- the counts below q lowered by p, and whom it frees below q listed from `at` on
pub record Releasing (d : ℕ → ℕ → Bool) (p : ℕ) (cs₀ o₀ : List ℕ) (at q : ℕ) (cs o : List ℕ) (r : ℕ) : Type 0 where
  pub counts : cs ≡ over (list_below (lower d p (of cs₀)) q) cs₀
  pub order : Picked (frees d p (of cs₀)) o₀ at q o r

-- and all n counts
abbrev pub Released : (ℕ → ℕ → Bool) → ℕ → ℕ → ℕ → List ℕ → List ℕ → List ℕ → List ℕ → ℕ → Type 0
Released d n p at cs₀ cs o₀ o r = Releasing d p cs₀ o₀ at n cs o r

-- a front stands in the order from `start` to `end`; its members lower no count below zero, and there is room for whom they free
pub record Ready (d : ℕ → ℕ → Bool) (n start end : ℕ) (cs o rank : List ℕ) : Type 0 where
  pub counted : n ≤ length cs
  pub ahead : start ≤ end
  pub inside : end ≤ length o
  pub plans : (i : ℕ) → start ≤ i → i < end → get_or o i 0 < n
  pub fair : (t : ℕ) → t < n → tally (λ p. d p t) (slice start end o) ≤ get_or cs t 0
  pub room : end + length (freed_all d n (slice start end o) (of cs)) ≤ length o
  pub wide : n ≤ length rank

-- that front's members before place i ranked k, the counts lowered by them, and whom they free listed from `end` on
pub record Passing (d : ℕ → ℕ → Bool) (n k start end : ℕ) (cs₀ o₀ r₀ : List ℕ) (i : ℕ) (cs o r : List ℕ) (x : ℕ) : Type 0 where
  pub counts : (t : ℕ) → t < n → get_or cs t 0 ≡ lower_all d (slice start i o₀) (of cs₀) t
  pub order : Put o₀ end (freed_all d n (slice start i o₀) (of cs₀)) o x
  pub ranks : r ≡ mark (slice start i o₀) k r₀

-- and all its members
abbrev pub Passed : (ℕ → ℕ → Bool) → ℕ → ℕ → ℕ → ℕ → List ℕ → List ℕ → List ℕ → List ℕ → List ℕ → List ℕ → ℕ → Type 0
Passed d n k start end cs₀ cs o₀ o r₀ r x = Passing d n k start end cs₀ o₀ r₀ end cs o r x

-- front k has no members
abbrev pub no_members : (ℕ → ℕ → Bool) → ℕ → ℕ → Bool
no_members d n k = eqb (length (front d n k)) 0

-- how many fronts have members
unfoldable pub front_count : (ℕ → ℕ → Bool) → ℕ → ℕ
front_count d n = first_below (no_members d n) n

-- where front k ends in the listing
abbrev pub front_end : (ℕ → ℕ → Bool) → ℕ → ℕ → ℕ
front_end d n k = length (listing d n (suc k))

-- THE PROMISE of the two sorts: the listing of all n plans, the front of each plan, the end of each front in the listing, and the number of fronts. What lies
-- past them in a lent slice is as it was.
pub record Sorted (d : ℕ → ℕ → Bool) (n : ℕ) (o₀ o r₀ r e₀ e : List ℕ) (x : ℕ) : Type 0 where
  pub order : o ≡ over (listing d n n) o₀
  pub ranks : r ≡ over (front_list d n) r₀
  pub ends : e ≡ over (list_below (front_end d n) (front_count d n)) e₀
  pub result : x ≡ front_count d n
