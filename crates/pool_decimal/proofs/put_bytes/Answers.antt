use Rattle.std.proofs.Common.{arith, ◌≡◌, ℕ, ◌+◌, ◌-◌, ◌≤◌, List, length, take, drop, refl, ap, sym, ◌∙◌, append_assoc}
use Rattle.std.proofs.lemmas.List.Edits.{sets, sets-eq}
use borrow.Rule.Slice.PartMut.{put_mid, Post-is}
use Rattle.pool_decimal.proofs.put_bytes.Goals as goal

-- a text that is pasted is one that is put
pasted : (out text : List ℕ) (at : ℕ) → at + length text ≤ length out → put_mid at (at + length text - at) out text ≡ sets out at text
pasted out text at h = rw (Post-is at (at + length text) out (omega arith)) (sym (append_assoc (take at out) text (drop (at + length text) out)) ∙ sym (sets-eq text out at h))

pub returns : goal.returns
returns c =
    let a = c.args in
    record {
      stored = ap (λ (t : List ℕ). put_mid a.at (a.at + length a.text.now - a.at) a.out.now t) c.copy_from_slice.ensures.after ∙ pasted a.out.now a.text.now a.at c.requires;
      ends = refl;
    }
