-- A row copied to its place in another table is a run of stores there.
use Rattle.std.proofs.Common.{◌≡◌, sym, ap, ap₂, ◌∙◌, ℕ, Float, ◌+◌, ◌*◌, ◌-◌, ◌≤◌, List, ◌++◌, arith, append_assoc, length, take, drop}
use Rattle.std.specs.Float.{nan}
use Rattle.std.specs.List.{between}
use Rattle.std.proofs.lemmas.List.Edits.{sets, sets-eq, length-between, get_or-between}
use borrow.Rule.Slice.PartMut.{post_of, Post-is}
use lib.Seq.{ext_get_or}
use Rattle.model.specs.Lists.{list_below}
use Rattle.list_laws.proofs.Built.{list_below-at, list_below-length}
use Rattle.front_laws.specs.Flat.{row_at}

-- a row is a part of its table
row_part : (rows : List Float) (m p : ℕ) → p * m + m ≤ length rows → between (p * m) (p * m + m) rows ≡ list_below (row_at rows m p) m
row_part rows m p h =
    let e = length-between rows (p * m) (p * m + m) h in
    let n = list_below-length (row_at rows m p) m in
    ext_get_or nan (between (p * m) (p * m + m) rows) (list_below (row_at rows m p) m) (omega arith)
    (λ j l. get_or-between rows (p * m) (p * m + m) j nan (omega arith) ∙ sym (list_below-at (row_at rows m p) m nan j (omega arith)))

pub row_copied : (rows out : List Float) (m p i : ℕ) → p * m + m ≤ length rows → i * m + m ≤ length out → {part : List Float}
    → part ≡ between (p * m) (p * m + m) rows
    → take (i * m) out ++ (part ++ post_of (i * m) (i * m + m - i * m) out) ≡ sets out (i * m) (list_below (row_at rows m p) m)
row_copied rows out m p i h k e =
    let at = i * m in
    let row = list_below (row_at rows m p) m in
    let n = list_below-length (row_at rows m p) m in
    ap₂ (λ ys rest. take at out ++ (ys ++ rest)) (e ∙ row_part rows m p h) (Post-is at (at + m) out (omega arith) ∙ ap (λ t. drop (at + t) out) (sym n))
    ∙ sym (sets-eq row out at (omega arith) ∙ append_assoc (take at out) row _)
