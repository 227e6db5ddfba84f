-- No listing is longer than a header of 21 bytes and a line of 20 for each plan of a pool.
use Prim.Native.Nat.{ℕ, zero, suc, ◌*◌, ◌≤◌, ◌<◌}
use mathlib.Core.Path.{◌≡◌}
use mathlib.Core.Logic.{◌⊎◌, ⊎_elim}
use mathlib.Core.List.{List}
use native.Mathlib.Omega.{arith}
use lib.ListN.{length, get_or, length-append}
use Rattle.model.specs.declared.Refusal.{Refusal}
use Rattle.model.specs.declared.Refusal.TheVariants as why
use Rattle.model.specs.Refusal.{number_of}
use Rattle.model.specs.Lists.{join_below}
use Rattle.model.specs.declared.Edition.TheVariants.{First}
use Rattle.model.specs.Edition.{most_plans}
use Rattle.model.specs.Kept.{Selected, without_line}
use Rattle.model.specs.PoolFile.{line_text, place_of, header_text, plan_text, listing_text, refused_text}
use Rattle.model.specs.Refusal.{max_size, max_lines}
use Rattle.model.specs.Calls.{max_text, Listable}
use Rattle.pool_laws.specs.Text.{fields_text}
use Rattle.pool_laws.proofs.Decimals.{decimal-four, line-by}
use Rattle.pool_laws.proofs.Places.{place_le}
use Rattle.pool_laws.proofs.Listing.{header-text, plan-text, refused-text}

line-four : (l : ℕ) → (l ≤ max_lines) ⊎ (l ≡ without_line) → length (line_text l) ≤ 4
line-four l h = line-by (λ t. length t ≤ 4) l (omega arith) (λ z. decimal-four l (⊎_elim (λ u. omega arith) (λ u. absurd (z u)) h))

header-short : (count kept : ℕ) → count ≤ most_plans First → kept ≤ max_size → length (header_text count kept) ≤ 21
header-short count kept h g =
    let a = decimal-four count (omega arith) in
    let b = decimal-four kept (omega arith) in
    rw header-text (simp length-append (omega arith))

plan-short : (count : ℕ) (sel : Selected) → Listable count sel → (p : ℕ) → p < count → length (plan_text sel p) ≤ 20
unfolding fields_text
plan-short count sel s p h =
    let m = s.plans in
    let k = s.kept in
    let f = s.fronts p h in
    let a = decimal-four p (omega arith) in
    let b = decimal-four (get_or sel.fronts p 0) (omega arith) in
    let c = line-four (get_or sel.lines p 0) (s.lines p h) in
    let d = decimal-four (place_of sel.kept p) (omega (arith, place_le sel.kept p)) in
    rw plan-text (simp length-append (omega arith))

rows_short : (f : ℕ → List ℕ) (n : ℕ) → ((p : ℕ) → p < n → length (f p) ≤ 20) → length (join_below f n) ≤ n * 20
unfolding join_below
rows_short f zero h = omega arith
rows_short f (suc n) h = rw length-append (omega (arith, rows_short f n (λ p l. h p (omega arith)), h n (omega arith)))

pub listing-short : (count : ℕ) (sel : Selected) → Listable count sel → length (listing_text count sel) ≤ max_text
unfolding listing_text
listing-short count sel s =
    let m = s.plans in
    rw length-append (omega (arith, header-short count (length sel.kept) s.plans s.kept, rows_short (plan_text sel) count (plan-short count sel s)))

-- a refusal's number has at most four digits
pub refused-short : (n : ℕ) → n < 10000 → length (refused_text n) ≤ 13
refused-short n h = let a = decimal-four n h in rw refused-text (simp length-append (omega arith))

-- and no refusal's number has more
pub number-few : (r : Refusal) → number_of r ≤ 18
number-few why.Form = omega arith
number-few why.Directions = omega arith
number-few why.Size = omega arith
number-few why.Divisions = omega arith
number-few why.Operators = omega arith
number-few why.Bounds = omega arith
number-few why.Count = omega arith
number-few why.Values = omega arith
number-few why.Parents = omega arith
number-few why.Room = omega arith
number-few why.Generation = omega arith
number-few why.Steps = omega arith
number-few why.Load = omega arith
number-few why.Window = omega arith
number-few why.Bands = omega arith
number-few why.Litres = omega arith
number-few why.SecondForm = omega arith
number-few why.NotHeld = omega arith

-- so that a refusal's text has room in any slice of 13 bytes
pub refusal-short : (r : Refusal) (n : ℕ) → n ≡ number_of r → length (refused_text n) ≤ 13
refusal-short r n e = refused-short n (omega (arith, number-few r, e))
