-- THEOREM: the reference table in doubles is the image of Das and Dennis's table, and lists each line once.
use Prim.Native.Nat.{ℕ, ◌≤◌}
use mathlib.Core.Path.{refl, subst}
use mathlib.Core.List.{List, map, Memᴰ}
use native.Mathlib.Omega.{arith}
use Rattle.model.specs.Reference.{ratio, lattice, das_dennis}
use Rattle.model.specs.Papers.DasDennis1998.{total, IsPoint}
use Rattle.list_laws.proofs.Members.{place_of, map-apart, distinct-map}
use Rattle.reference_laws.specs.Doubles.{TableOfDoubles}
use Rattle.reference_laws.proofs.Table.{part-most, lattice-table}
use Rattle.reference_laws.proofs.Ratios.{ratio-rising, ratio-apart}

-- no coordinate of a point is above h
coordinate-most : (m h : ℕ) (t : List ℕ) → IsPoint m h t → (i : ℕ) → Memᴰ i t → i ≤ h
coordinate-most m h t p i k =
    let r = place_of k in
    let l : i ≤ total t = subst (λ n. n ≤ total t) r.2 (part-most t r.0) in
    omega (arith, p.on_simplex)

-- THE THEOREM
pub table-of-doubles : (m h : ℕ) → 1 ≤ m → 1 ≤ h → h ≤ 199 → TableOfDoubles m h
unfolding das_dennis
table-of-doubles m h wide some few =
    let table = lattice-table m h wide in
    let most : (t : List ℕ) → Memᴰ t (lattice m h) → (i : ℕ) → Memᴰ i t → i ≤ h = λ t k. coordinate-most m h t (table.nothing_else t k) in
    record {
      points = table;
      image = refl;
      rising = ratio-rising h some few;
      once = distinct-map (λ t. map (ratio h) t) (lattice m h)
          (λ s t a b. map-apart (ratio h) s t (λ i j k l. ratio-apart h some few i j (most s a i k) (most t b j l)))
          table.once;
    }
