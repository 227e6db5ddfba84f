use Rattle.std.proofs.Common.{◌≡◌, ap, ap₂, sym, ◌∙◌, cond, get_or, arith}
use lib.Ieee.{nan, lt}
use Rattle.list_laws.proofs.Built.{over_none, over-set}
use Rattle.list_laws.proofs.Runs.{over-next}
use Rattle.block_search.proofs.keep_less.Goals as goal
use Rattle.block_search.proofs.keep_less.Goals.{then-less, else-less, then-less-2, else-less-2}

pub loop-b-init : goal.loop-b-init
loop-b-init c = record { line = sym (over_none _ _); square = sym (over_none _ _) }

pub loop-b-preserved : goal.loop-b-preserved
loop-b-preserved c =
    let l = c.loop-b in
    let k = l.invariant in
    let s = get_or c.args.squares.now l.b nan in
    let q = get_or l.best l.b nan in
    let line : c.if-less.lines ≡ cond (lt s q) c.args.line (get_or l.lines l.b 0)
    = elim c.if-less.branch [ then-less w ↦ rw w.if-less.true w.lines-is | else-less w ↦ rw w.if-less.false w.lines-is ] in
    let square : c.if-less-2.best ≡ cond (lt s q) s q
    = elim c.if-less-2.branch [ then-less-2 w ↦ rw w.if-less-2.true w.best-is | else-less-2 w ↦ rw w.if-less-2.false w.best-is ] in
    record {
      line = over-set _ _ _ _ _ (omega arith) k.line (line ∙ ap₂ (λ p t. cond (lt s p) c.args.line t) (over-next _ _ _ _ nan k.square) (over-next _ _ _ _ 0 k.line));
      square = over-set _ _ _ _ _ (omega arith) k.square (square ∙ ap (λ p. cond (lt s p) s p) (over-next _ _ _ _ nan k.square));
    }
