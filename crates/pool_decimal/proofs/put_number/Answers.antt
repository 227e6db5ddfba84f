-- the digits, then the byte
use Rattle.list_laws.proofs.Stores.{put_then}
use Rattle.pool_decimal.proofs.put_number.Goals as goal

pub returns : goal.returns
returns c = put_then _ _ _ _ _ _ _ _ c.put_digits-last.ensures c.put_byte.ensures
