-- THEOREM (Das and Dennis 1998): the list of lines has every point of the lattice, nothing else, and none twice.
use Prim.Native.Nat.{ℕ, zero, suc, ◌-◌, ◌≤◌, ◌<◌}
use mathlib.Core.Path.{◌≡◌, sym, ap, subst, ◌∙◌}
use mathlib.Core.Logic.{⊎_elim, ◌≢◌}
use mathlib.Core.List.Memᴰ
use mathlib.Core.List.Pairwise
use mathlib.Core.List.{List, [], ◌∷◌, Memᴰ, head-eq_of_cons-eq, tail-eq_of_cons-eq, Nodup, Pairwise-singleton}
use native.Mathlib.Nat.{add-zero}
use native.Mathlib.Omega.{arith}
use lib.ListN.{length, get_or}
use Rattle.list_laws.proofs.Below.{later}
use Rattle.list_laws.proofs.Members.{distinct_append, distinct-map}
use Rattle.model.specs.Lists.{join_below}
use Rattle.model.specs.Reference.{tuples, lattice}
use Rattle.model.specs.Papers.DasDennis1998.{total, IsPoint, IsTable}
use Rattle.reference_laws.proofs.Count.{branch}

-- ---- what is listed in f 0 ++ .. ++ f (n - 1)

module _ {A : Type 0} (f : ℕ → List A) where
  pub mem_join : {a : A} (n : ℕ) → Memᴰ a (join_below f n) → (i : ℕ) × (i < n) × Memᴰ a (f i)
  unfolding join_below
  mem_join zero m = absurd (Memᴰ.not-nil m)
  mem_join {a = a} (suc n) m =
      ⊎_elim (λ w. let r = mem_join {a = a} n w in (r.0, omega (arith, r.1), r.2)) (λ w. (n, omega arith, w)) (Memᴰ.append_cases (join_below f n) m)

  pub join_mem : {a : A} (i n : ℕ) → i < n → Memᴰ a (f i) → Memᴰ a (join_below f n)
  unfolding join_below
  join_mem {a} i n h m = later (λ t. Memᴰ a (join_below f t)) (λ t k. Memᴰ.append_left (f t) k) (suc i) n h (Memᴰ.append_right (join_below f i) m)

  pub join_once : (n : ℕ) → ((i : ℕ) → i < n → Nodup (f i)) → ((i j : ℕ) (a : A) → i < j → Memᴰ a (f i) → Memᴰ a (f j) → ⊥)
      → Nodup (join_below f n)
  unfolding join_below
  join_once zero each apart = Pairwise.nil
  join_once (suc n) each apart =
      distinct_append (join_below f n) (f n) (join_once n (λ i h. each i (omega arith)) apart) (each n (omega arith))
      (λ a b w. let r = mem_join n b in apart r.0 n a r.1 r.2 w)

-- ---- the points that are listed

-- with i before it, a point of a smaller sum is one of this sum
longer : (d r i : ℕ) (t : List ℕ) → i ≤ r → IsPoint (suc d) (r - i) t → IsPoint (suc (suc d)) r (i ∷ t)
unfolding total
longer d r i t h p = record { coordinates = ap suc p.coordinates; on_simplex = omega (arith, p.on_simplex) }

pub listed-points : (d r : ℕ) (t : List ℕ) → Memᴰ t (tuples d r) → IsPoint (suc d) r t
unfolding tuples total
listed-points zero r t m =
    let e = Memᴰ.eq_of_singleton m in
    record { coordinates = ap length e; on_simplex = ap total e ∙ add-zero r }
listed-points (suc d) r t m =
    let w = mem_join (branch d r) (suc r) m in
    let u = Memᴰ.of_map (λ t. w.0 ∷ t) (tuples d (r - w.0)) w.2 in
    subst (IsPoint (suc (suc d)) r) u.2 (longer d r w.0 u.0 (omega (arith, w.1)) (listed-points d (r - w.0) u.0 u.1))

pub points-listed : (d r : ℕ) (t : List ℕ) → IsPoint (suc d) r t → Memᴰ t (tuples d r)
unfolding tuples total
points-listed d r [] p = absurd (omega (arith, p.coordinates))
points-listed zero r (i ∷ []) p = Memᴰ.head (ap (λ (x : ℕ). x ∷ []) (sym (add-zero i) ∙ p.on_simplex))
points-listed zero r (i ∷ j ∷ t) p = absurd (omega (arith, p.coordinates))
points-listed (suc d) r (i ∷ t) p =
    let h : i ≤ r = omega (arith, p.on_simplex) in
    let q : IsPoint (suc d) (r - i) t = record { coordinates = omega (arith, p.coordinates); on_simplex = omega (arith, p.on_simplex) } in
    join_mem (branch d r) i (suc r) (omega arith) (Memᴰ.map (λ t. i ∷ t) (points-listed d (r - i) t q))

-- no coordinate is above the sum
pub part-most : (t : List ℕ) (j : ℕ) → get_or t j 0 ≤ total t
unfolding total
part-most [] j = omega arith
part-most (a ∷ t) zero = omega arith
part-most (a ∷ t) (suc j) = let i = part-most t j in omega arith

-- two branches differ in the first coordinate
branches_apart : (d r i j : ℕ) (t : List ℕ) → i < j → Memᴰ t (branch d r i) → Memᴰ t (branch d r j) → ⊥
branches_apart d r i j t h a b =
    let u = Memᴰ.of_map (λ t. i ∷ t) (tuples d (r - i)) a in
    let v = Memᴰ.of_map (λ t. j ∷ t) (tuples d (r - j)) b in
    let e : i ≡ j = head-eq_of_cons-eq (u.2 ∙ sym v.2) in
    omega arith

pub listed-once : (d r : ℕ) → Nodup (tuples d r)
unfolding tuples
listed-once zero r = Pairwise-singleton ◌≢◌ (r ∷ [])
listed-once (suc d) r =
    join_once (branch d r) (suc r)
    (λ i h. distinct-map (λ t. i ∷ t) (tuples d (r - i)) (λ a b m k e. tail-eq_of_cons-eq e) (listed-once d (r - i)))
    (branches_apart d r)

-- THEOREM: `lattice m h` is a table of Das and Dennis's points
pub lattice-table : (m h : ℕ) → 1 ≤ m → IsTable m h (lattice m h)
lattice-table m h p =
    let e : suc (m - 1) ≡ m = omega arith in
    subst (λ (k : ℕ). IsTable k h (lattice m h)) e
    (record { every = points-listed (m - 1) h; nothing_else = listed-points (m - 1) h; once = listed-once (m - 1) h })
