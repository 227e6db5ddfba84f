-- A number from 0 to 99 can be cast.
use mathlib.Core.Path.{◌≡◌}
use mathlib.Core.Bool.{true, false}
use lib.Dec.{T}
use lib.IntN.{pos}
use lib.Ieee.{Float, fin, of_bits, le, lt}
use Rattle.float_laws.proofs.Order.{le_trans}
use Rattle.float_laws.proofs.Constants.{exp2}
use Rattle.list_laws.proofs.Bools.{and_t}
use Rattle.real_laws.proofs.Halves as halves
use Rattle.model.specs.Real.{nought, within}
use Rattle.model.specs.Refusal.{ninety_nine}

pub castable : (x : Float) → within nought ninety_nine x ≡ true → T (lt (fin true 1 (pos 0)) x) × T (lt x (fin false 1 (pos 64)))
unfolding of_bits le
castable x h = let p = and_t (le nought x) (le x ninety_nine) h in halves.castable x p.0 (le_trans x ninety_nine (exp2 52) p.1 tt)
