-- The library's nearest double.
use Rattle.std.proofs.Common.{ap, ◌∙◌, w64}
use lib.Ieee.{binary64, of_int}
use mir.ValLaws.{to_z-of_z}
use Rattle.real.proofs.real_of_int.Statement.{statement}
use Rattle.real.proofs.real_of_int.Tie as tie

nearest-i64-to-f64-requires : tie.Need-nearest_i64_to_f64-requires
nearest-i64-to-f64-requires c κs = tt

returns : tie.Need-returns
returns c = c.nearest_i64_to_f64.ensures ∙ ap (of_int binary64) (to_z-of_z w64 c.args.n c.ranges.n)

pub real_of_int_spec : {M : Type 1} → statement M
real_of_int_spec = tie.close (tie.spec nearest-i64-to-f64-requires returns)
