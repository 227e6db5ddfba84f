-- the plans of each line, counted over the whole front
use Rattle.niching_array_laws.proofs.Numbering.{numbered-first}
use Rattle.niching.proofs.count_waiting.Goals as goal

pub returns : goal.returns
returns c = numbered-first _ _ _ c.count_lines.ensures
