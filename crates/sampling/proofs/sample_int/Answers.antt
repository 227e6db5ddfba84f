use Rattle.std.proofs.Common.{rules}
use Rattle.model.specs.declared.ParamValue.TheVariants as value
use Rattle.model.specs.Setting.{sample_random}
use Rattle.list_laws.proofs.Draws.{drawn-by}
use Rattle.settings.proofs.Signed.{back}
use Rattle.settings.proofs.Valid.{int_bounds}
use Rattle.sampling.proofs.sample_int.Goals as goal

pub sample_whole-n-requires : goal.sample_whole-n-requires
sample_whole-n-requires c =
    let d = c.args.d in
    let b = int_bounds d c.requires in
    rw (back d.low (search rules), back d.high (search rules)) (b.span, b.step)

pub returns : goal.returns
unfolding sample_random
returns c =
    let d = c.args.d in
    let n = c.sample_whole-n in
    rw (back n.result.value (search rules)) (drawn-by value.Int (rw (back d.low (search rules), back d.high (search rules)) at n.ensures))
