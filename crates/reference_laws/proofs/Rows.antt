-- Laws of the rows that the recursion writes, and of the table that they make.
use Prim.Native.Nat.{ℕ, zero, suc, ◌+◌, ◌-◌, ◌*◌, ◌<◌, ◌≤◌}
use mathlib.Core.Path.{◌≡◌, refl, sym, ap, ◌∙◌}
use mathlib.Core.List.Memᴰ
use mathlib.Core.List.{List, [], ◌∷◌, ◌++◌, map, map-append, flatten, append_assoc, append-nil, Memᴰ}
use native.Mathlib.Numerals.{add-one}
use native.Mathlib.Omega.{arith}
use lib.Ieee.{Float, nan}
use lib.ListN.{length, take, get_or, set, length-append, length-map}
use lib.Seq.{take-suc-set, length-take-le}
use Rattle.model.specs.Lists.{join_below, over}
use Rattle.model.specs.Reference.{ratio, tuples, lattice, point_count, das_dennis, line}
use Rattle.list_laws.proofs.Built.{join_below-same, over-at}
use Rattle.list_laws.proofs.Rows.{row_inside, flatten_append, flatten_length, flatten_at}
use Rattle.list_laws.proofs.Members.{get_d_member}
use Rattle.reference_laws.specs.Rows.{rows, rows_from}
use Rattle.reference_laws.proofs.Count.{branch, lattice-count}
use Rattle.reference_laws.proofs.Table.{lattice-table}

-- ---- the rows of the recursion

rows_join : (before : List Float) (h : ℕ) (F : ℕ → List (List ℕ)) (n : ℕ) → rows before h (join_below F n) ≡ join_below (λ i. rows before h (F i)) n
unfolding join_below flatten
rows_join before h F zero = refl
rows_join before h F (suc n) =
    let row : List ℕ → List Float = λ t. before ++ map (ratio h) t in
    ap flatten (map-append row (join_below F n) (F n))
    ∙ flatten_append (map row (join_below F n)) (map row (F n))
    ∙ ap (λ (l : List Float). l ++ rows before h (F n)) (rows_join before h F n)

rows-branch : (before : List Float) (h i : ℕ) (ts : List (List ℕ)) → rows before h (map (λ t. i ∷ t) ts) ≡ rows (before ++ (ratio h i ∷ [])) h ts
unfolding flatten
rows-branch before h i [] = refl
rows-branch before h i (t ∷ ts) =
    let e = append_assoc before (ratio h i ∷ []) (map (ratio h) t) in
    ap (λ (l : List Float). (before ++ (ratio h i ∷ map (ratio h) t)) ++ l) (rows-branch before h i ts)
    ∙ ap (λ (l : List Float). l ++ rows (before ++ (ratio h i ∷ [])) h ts) (sym e)

-- the rows whose next coordinate is i
abbrev pub part : List Float → ℕ → ℕ → ℕ → ℕ → List Float
part before left rest h i = rows_from (before ++ (ratio h i ∷ [])) (left - 1) (rest - i) h

pub rows-some : (before : List Float) (left rest h : ℕ) → (left ≡ 0 → ⊥) → rows_from before left rest h ≡ join_below (part before left rest h) (rest + 1)
unfolding rows_from tuples
rows-some before zero rest h f = absurd (f refl)
rows-some before (suc d) rest h f =
    let e : d ≡ suc d - 1 = omega arith in
    rows_join before h (branch d rest) (suc rest)
    ∙ join_below-same (λ i. rows before h (branch d rest i)) (part before (suc d) rest h) (suc rest)
    (λ i l. rows-branch before h i (tuples d (rest - i)) ∙ ap (λ (k : ℕ). rows (before ++ (ratio h i ∷ [])) h (tuples k (rest - i))) e)
    ∙ ap (join_below (part before (suc d) rest h)) (sym (add-one rest))

pub rows_none : (before : List Float) (left rest h : ℕ) → left ≡ 0 → rows_from before left rest h ≡ before ++ (ratio h rest ∷ [])
unfolding rows_from tuples flatten
rows_none before left rest h e = rw e (append-nil _)

pub rows_none_length : (l : List Float) (d left rest h : ℕ) → d ≤ length l → left ≡ 0 → length (rows_from (take d l) left rest h) ≡ d + 1
rows_none_length l d left rest h k e =
    ap length (rows_none (take d l) left rest h e) ∙ length-append (take d l) (ratio h rest ∷ []) ∙ omega (arith, length-take-le d l k)

-- the next coordinate stored in a row
pub stored : (l : List Float) (d h i : ℕ) (x : Float) → d < length l → x ≡ ratio h i → take (d + 1) (set l d x) ≡ take d l ++ (ratio h i ∷ [])
stored l d h i x k e = rw (add-one, e) (take-suc-set l d (ratio h i) k)

-- ---- the whole table

pub whole-rows : (m h : ℕ) → rows_from [] (m - 1) h h ≡ flatten (das_dennis m h)
unfolding rows_from das_dennis
whole-rows m h = refl

-- ---- reading the table

row-length : (m h : ℕ) → 1 ≤ m → (r : List Float) → Memᴰ r (das_dennis m h) → length r ≡ m
unfolding das_dennis
row-length m h p r w =
    let u = Memᴰ.of_map (λ (t : List ℕ). map (ratio h) t) (lattice m h) w in
    ap length (sym u.2) ∙ length-map u.0 (ratio h) ∙ ((lattice-table m h p).nothing_else u.0 u.1).coordinates

row_at : (m h : ℕ) → 1 ≤ m → (l : ℕ) → l < length (das_dennis m h) → length (get_or (das_dennis m h) l []) ≡ m
row_at m h p l k = row-length m h p _ (get_d_member [] (das_dennis m h) l k)

pub lines-count : (m h : ℕ) → 1 ≤ m → length (das_dennis m h) ≡ point_count m h
unfolding das_dennis
lines-count m h p = length-map (lattice m h) (λ (t : List ℕ). map (ratio h) t) ∙ sym (lattice-count m h p)

-- as many coordinates as lines times objectives
pub flat-length_is : (m h : ℕ) → 1 ≤ m → length (flatten (das_dennis m h)) ≡ point_count m h * m
flat-length_is m h p = flatten_length m (das_dennis m h) (row_at m h p) ∙ ap (λ (n : ℕ). n * m) (lines-count m h p)

pub whole_length : (m h : ℕ) → 1 ≤ m → length (rows_from [] (m - 1) h h) ≡ point_count m h * m
whole_length m h p = ap length (whole-rows m h) ∙ flat-length_is m h p

-- an entry of a slice that `das_dennis` has written
pub table_at : (m h l j : ℕ) (old : List Float) → 1 ≤ m → l < point_count m h → j < m → get_or (over (flatten (das_dennis m h)) old) (l * m + j) nan ≡ line m h l j
table_at m h l j old p a b =
    let rows = flatten (das_dennis m h) in
    over-at rows old (l * m + j) nan (omega (arith, flat-length_is m h p, row_inside l (point_count m h) m a))
    ∙ flatten_at m (das_dennis m h) (row_at m h p) l j nan (omega (arith, lines-count m h p)) b
