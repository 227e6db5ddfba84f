-- what was remembered is taken up, the own part put behind it, and the last of both put back
use Rattle.std.proofs.Common.{ℕ, ◌+◌, ◌*◌, ◌≤◌, length, get_or, ap, ◌∙◌, arith}
use Rattle.std.specs.Float.{nan}
use Rattle.std.specs.Prelude.{replicate}
use Rattle.std.proofs.lemmas.List.Edits.{sets}
use native.Mathlib.Nat.{mul-le-mul_right}
use lib.ListN.{length-replicate}
use Rattle.list_laws.proofs.Built.{list_below-length}
use Rattle.list_laws.proofs.Rows.{row_inside}
use Rattle.model.specs.Lists.{list_below}
use Rattle.model.specs.Real.{bits}
use Rattle.model.specs.Window.{max_window}
use Rattle.model.specs.Session.{most_words, memory_at}
use Rattle.session_window.proofs.Least.{part_of, remembered_is}
use Rattle.session_window.proofs.remember.Goals as goal

pub returns : goal.returns
returns c =
    let a = c.args in
    let m = a.config.n_obj in
    let held = a.n * m in
    let at = c.memory_at-at in
    let few = row_inside a.n max_window m c.requires.3 in
    let fits : at.result + held ≤ length a.pool.now = omega (arith, at.ensures, c.requires.5, mul-le-mul_right m c.requires.4) in
    remembered_is a.pool.now (list_below (λ i. get_or a.pool.now (memory_at a.config + i) 0) held) (list_below (λ j. bits (get_or a.own.now j nan)) m) (replicate 512 0) _ _ _
    (memory_at a.config) at.result held m c.saturating_sub-from.result (most_words a.config) _ at.ensures (ap (λ (k : ℕ). k * m) c.most_remembered.ensures) c.saturating_sub-from.ensures
    (list_below-length _ held) (list_below-length _ m) (omega (arith, few, c.requires.1, length-replicate {A = ℕ} 512 0))
    (c.put.ensures ∙ ap (sets (replicate 512 0) 0) (part_of a.pool.now at.result held fits ∙ ap (λ (k : ℕ). list_below (λ i. get_or a.pool.now (k + i) 0) held) at.ensures))
    c.put_bits.ensures c.put-2.ensures
