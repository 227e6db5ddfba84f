-- `convert`: what the turned file tells
use Rattle.std.proofs.Common.{ℕ, ◌∙◌}
use Rattle.std.proofs.lemmas.Result.{err_from_is_err_and}
use lib.ListN.{length-replicate}
use Rattle.model.specs.PoolFile.{max_file}
use Rattle.convert_call.proofs.Turns.{refused, handed_out}
use Rattle.convert_call.proofs.convert.Goals as goal

pub returns-in_err-n : goal.returns-in_err-n
returns-in_err-n c =
    let p = err_from_is_err_and c.from_residual.result c.from_residual.ensures.1 in
    rw (p.1, p.2) (refused c.args.file.now c.args.out.now c.turn.new.text c.turn.result c.turn.ensures c.each_byte.ensures _ c.in_err-n.was)

pub returns : goal.returns
returns c =
    handed_out c.args.file.now c.args.out.now c.turn.new.text c.turn.result c.turn.ensures c.each_byte.ensures _ c.in_ok-n.was
    (c.turn.auto.text ∙ length-replicate {A = ℕ} max_file 0) c.told-out _ c.hand_out.ensures
