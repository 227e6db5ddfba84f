-- What promise clause c is to shut out, "keeping the first front right and filling the split front in listed order": in document 01's example demand 3 does
-- not hold of the list that does so, by its sum of squares alone.
use Prim.Native.Nat.{ℕ, ◌≤◌}
use mathlib.Core.Path.{◌≡◌, refl}
use mathlib.Core.Bool.{true}
use mathlib.Core.List.Memᴰ
use mathlib.Core.List.{List, [], ◌∷◌, Nodup-nil}
use native.Mathlib.Omega.{arith}
use lib.Ieee.{add, sub, mul, div, lt, le, eq, of_bits, of_int, neg}
use Rattle.list_laws.proofs.Members.{distinct_snoc}
use Rattle.model.specs.Papers.Deb2002 as Deb
use Rattle.model.specs.Lists as Lists
use Rattle.model.specs.Real as Real
use Rattle.model.specs.Numbers as Numbers
use Rattle.model.specs.Row as Row
use Rattle.model.specs.Reference as Reference
use Rattle.model.specs.Association as Association
use Rattle.model.specs.Cases as Cases
use Rattle.model.specs.Cases.{example}
use Rattle.model.specs.Demand3.{in_front, size_of_first, Split, Filling, final_count, filling_count, sum_of_squares}

-- front 0 is plan 0, front 1 is plans 1 and 2, and two plans are wanted; plans 0 and 1 are on one line, plan 2 on the other
record Computed : Type 0 where
  wanted : example.size ≡ 2
  pool : example.count ≡ 3
  first : size_of_first example 1 ≡ 1
  second : size_of_first example 2 ≡ 3
  member : in_front example 1 2 ≡ true
  in_order : sum_of_squares example (final_count example (0 ∷ 1 ∷ [])) ≡ 4
  other : sum_of_squares example (filling_count example 1 (2 ∷ [])) ≡ 2

computed : Computed
unfolding add sub mul div lt le eq of_bits of_int neg Deb.undominated_of_rest Deb.in_first Lists.any_below Lists.count_below Lists.sum_below Lists.join_below
    Lists.all_in Lists.tally Real.sum_to Numbers.grown Numbers.root_in Numbers.whole_root Numbers.closer Numbers.near_root Numbers.rooted Numbers.sqrt_of Row.row_of
    Row.dominates Row.feasible Row.violation Row.constrained_dominates Row.beats Reference.tuples Reference.das_dennis Reference.binomial
    Reference.point_count Lists.best_from Lists.keep_below Association.feasible_only Association.shapes Association.shapers Association.ideal_of Association.old_intercept_of Association.intercept_of Association.normalised
    Association.coordinate Association.squares_of Association.distance Association.distance_to Association.association Cases.plan_with Cases.request_with
    Cases.example
computed = record { wanted = refl; pool = refl; first = refl; second = refl; member = refl; in_order = refl; other = refl }

split : Split example 1
split = record { fall_short = omega (arith, computed.wanted, computed.first); exceed = omega (arith, computed.wanted, computed.second) }

filling : Filling example 1 (2 ∷ [])
filling =
    record {
      places = omega (arith, computed.wanted, computed.first);
      different = distinct_snoc [] 2 Nodup-nil Memᴰ.not-nil;
      in_pool = λ p m. let same : p ≡ 2 = Memᴰ.eq_of_singleton m in omega (arith, computed.pool);
      from_front = λ p m. rw (Memᴰ.eq_of_singleton m) computed.member;
    }

-- the list 0, 1 is not one with the least sum
pub listed-order : ((k : ℕ) → Split example k → (other : List ℕ) → Filling example k other
    → sum_of_squares example (final_count example (0 ∷ 1 ∷ [])) ≤ sum_of_squares example (filling_count example k other)) → ⊥
listed-order least = omega (arith, least 1 split (2 ∷ []) filling, computed.in_order, computed.other)
