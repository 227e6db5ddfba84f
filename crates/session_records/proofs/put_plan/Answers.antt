use Rattle.std.proofs.Common.{ap, ◌∙◌}
use Rattle.std.proofs.lemmas.List.Edits.{sets}
use Rattle.session_records.proofs.Records.{part-block}
use Rattle.session_records.proofs.put_plan.Goals as goal

pub returns : goal.returns
returns c = c.put.ensures ∙ ap (sets c.args.to.now c.args.at) (part-block c.args.from.now c.args.k c.requires.0)
