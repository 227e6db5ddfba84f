use Rattle.std.proofs.Common.{get_or}
use Rattle.std.specs.Float.{nan}
use Rattle.model.specs.Real.{bits}
use Rattle.list_laws.proofs.Runs.{run_none, run_more}
use Rattle.session_window.proofs.put_bits.Goals as goal

pub loop-j-init : goal.loop-j-init
loop-j-init c = run_none _ _ _

pub loop-j-preserved : goal.loop-j-preserved
loop-j-preserved c = run_more (λ j. bits (get_or c.args.reals.now j nan)) _ _ c.args.at c.loop-j.j _ c.loop-j.invariant c.word_of_real.ensures
