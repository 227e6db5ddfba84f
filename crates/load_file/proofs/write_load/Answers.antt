-- `write_load`: broken input, or what the load leaves.
use mathlib.Core.Path.{ap, ◌∙◌}
use Rattle.load_laws.proofs.Promise.{refused_1}
use Rattle.load_numbers.specs.Asking.{asked}
use Rattle.load_file.proofs.Filing.{filed}
use Rattle.load_file.proofs.write_load.Goals as goal

pub returns-in_default : goal.returns-in_default
returns-in_default c = refused_1 _ _ (c.read_load.ensures ∙ ap asked c.in_default.is)

pub returns : goal.returns
returns c = filed _ _ _ _ (c.read_load.ensures ∙ ap asked c.in-Some.is) c.hand_load.ensures
