-- `printed`: what is handed out, or the refusal's text
use Rattle.std.proofs.Common.{arith}
use Rattle.pool_laws.proofs.Lengths.{refusal-short}
use Rattle.pool_print.proofs.Answers.{written, refused}
use Rattle.pool_print.proofs.printed.Goals as goal

pub write_refused-requires : goal.write_refused-requires
write_refused-requires c = let short = refusal-short c.in-Err.refusal c.from.result c.from.ensures in omega (arith, short, c.told-out)

pub returns-in-Ok : goal.returns-in-Ok
returns-in-Ok c =
    let a = c.args in
    written a.file.now a.out.now _ c.choose-chosen.ensures c.told-out _ c.in-Ok.is

pub returns-in-Err : goal.returns-in-Err
returns-in-Err c =
    let a = c.args in
    refused a.file.now a.out.now _ c.choose-chosen.ensures c.told-out _ c.in-Err.is _ c.from.ensures _ _ c.write_refused.ensures.count c.write_refused.ensures.text
