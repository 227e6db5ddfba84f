-- a refusal's text has room
use Rattle.std.proofs.Common.{arith}
use Rattle.pool_laws.proofs.Lengths.{refusal-short}
use Rattle.replay_choose.proofs.put_text.Goals as goal

pub write_refused-n-requires : goal.write_refused-n-requires
write_refused-n-requires c = let short = refusal-short c.in-Err.refusal c.from.result c.from.ensures in omega arith
