-- `tables`: the rooms of P1 and P2, computed.
use Rattle.std.proofs.Common.{rules}
use Rattle.model.specs.Reference.{binomial, point_count}
use Rattle.das_dennis_main.proofs.tables.Goals as goal

pub das_dennis-requires-clause-m_in_bounds : goal.das_dennis-requires-clause-m_in_bounds
unfolding point_count binomial
das_dennis-requires-clause-m_in_bounds g c = search rules

pub das_dennis-requires-2-clause-m_in_bounds : goal.das_dennis-requires-2-clause-m_in_bounds
unfolding point_count binomial
das_dennis-requires-2-clause-m_in_bounds g c = search rules
