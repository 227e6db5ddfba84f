-- there is room, there was none before, or there is none from here on
use Rattle.std.proofs.Common.{arith}
use Rattle.pool_form.proofs.Pieces.{byte_room, byte_full, byte_past}
use Rattle.pool_form.proofs.put_byte.Goals as goal

pub returns-then-at-out : goal.returns-then-at-out
returns-then-at-out c = byte_room _ _ _ c.if-at-out.true

pub returns-then-out-at : goal.returns-then-out-at
returns-then-out-at c = byte_past _ _ _ c.if-out-at.true

pub returns : goal.returns
returns c = byte_full _ _ _ (omega arith)
