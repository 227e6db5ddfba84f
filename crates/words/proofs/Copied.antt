-- A slice copied into a part of another is a run of stores there.
use Rattle.std.proofs.Common.{◌≡◌, sym, ap, ap₂, ◌∙◌, ℕ, ◌+◌, ◌-◌, ◌≤◌, List, ◌++◌, arith, append_assoc, length, take, drop}
use Rattle.std.proofs.lemmas.List.Edits.{sets, sets-eq}
use borrow.Rule.Slice.PartMut.{post_of, Post-is}

-- block was copied into the part of l from place `at` to place `end`, which holds `part` now
pub copied_part : (at end : ℕ) (block part l : List ℕ) → end ≡ at + length block → end ≤ length l → part ≡ block
    → take at l ++ (part ++ post_of at (end - at) l) ≡ sets l at block
copied_part at end block part l e h p =
    ap₂ (λ ys rest. take at l ++ (ys ++ rest)) p (Post-is at end l (omega arith) ∙ ap (λ k. drop k l) e)
    ∙ sym (sets-eq block l at (omega arith) ∙ append_assoc (take at l) block _)
