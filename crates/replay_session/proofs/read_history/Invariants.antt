use Rattle.std.proofs.Common.{◌≤◌}
use Rattle.replay_session.proofs.read_history.Given as goal

abbrev pub invariant-loop : goal.invariant-loop
invariant-loop l = l.held ≤ 4097
