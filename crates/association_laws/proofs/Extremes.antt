-- The least is at most the value at every place that is looked at, and the greatest at least, where none is a NaN.
use Prim.Native.Nat.{ℕ}
use mathlib.Core.Bool.{true, not}
use mathlib.Core.List.{List}
use lib.Dec.{T}
use lib.Ieee.{Float, inf, lt, le, is_nan}
use Rattle.model.specs.Lists.{In}
use Rattle.model.specs.Association.{least_from, greatest}
use Rattle.model.specs.Real.{above}
use Rattle.list_laws.proofs.Bools.{false_T}
use Rattle.list_laws.proofs.Best.{among_all, among_least}
use Rattle.float_laws.proofs.Order.{nlt→le}
use Rattle.float_laws.proofs.Compared.{lt_self, lt_down, lt_up}

abbrev pub Known : Float → Type 0
Known x = T (not (is_nan x))

pub least_le : (b : Float) (f : ℕ → Float) (ps : List ℕ) → Known b → ((q : ℕ) → In q ps → Known (f q)) → (p : ℕ) → In p ps → T (le (least_from b f ps) (f p))
least_le b f ps B F p h =
    nlt→le (f p) (least_from b f ps) (F p h) (among_all lt Known b f ps B F) (false_T (lt (f p) (least_from b f ps)) (among_least lt lt_self lt_down b f ps h))

pub greatest_ge : (f : ℕ → Float) (ps : List ℕ) → ((q : ℕ) → In q ps → Known (f q)) → (p : ℕ) → In p ps → T (le (f p) (greatest f ps))
unfolding is_nan
greatest_ge f ps F p h =
    nlt→le (greatest f ps) (f p) (among_all above Known (inf true) f ps tt F) (F p h)
    (false_T (lt (greatest f ps) (f p)) (among_least above lt_self lt_up (inf true) f ps h))
