-- as many settings as the loop has turned are read so far, up to p
use Rattle.std.proofs.Common.{Some}
use Rattle.model.specs.PoolFile.{many, setting}
use Rattle.pool_settings.specs.Passing.{PassedIs}
use Rattle.pool_settings.proofs.read_settings.Given as goal

abbrev pub invariant-loop : goal.invariant-loop
invariant-loop l = PassedIs (many l.counter setting) l.file l.at (Some l.p)
