-- the groups so far have k bits and form n; what model reads from here with them is what it reads from the start
use Rattle.std.proofs.Common.{◌≡◌, ◌%◌, ◌^◌, ◌<◌, ◌≤◌, drop}
use Rattle.model.specs.PoolFile.{number_from, number}
use Rattle.pool_number.proofs.read_number.Given as goal

abbrev pub invariant-loop-p : goal.invariant-loop-p
invariant-loop-p l = record {
  bits : l.k ≤ 63;
  groups : l.k % 7 ≡ 0;
  fits : l.n < 2 ^ l.k;
  same : number_from l.k l.n (drop l.p l.bytes) ≡ number (drop l.at l.bytes);
}
