-- A brood from its parts.
use mathlib.Core.Path.{◌≡◌}
use mathlib.Core.Bool.{true, false, ◌&&◌}
use mathlib.Core.List.{List, []}
use Prim.Native.Nat.{ℕ, ◌<◌}
use native.Mathlib.Omega.{arith}
use lib.Ieee.{Float}
use lib.ListN.{length, get_or}
use borrow.Author.Tests.{not-false}
use Rattle.list_laws.proofs.Bools.{and_left, and_right}
use Rattle.list_laws.proofs.Built.{list_below-length, list_below-at}
use Rattle.list_laws.proofs.Draws.{drawn-value}
use Rattle.model.specs.declared.ParamValue.{ParamValue}
use Rattle.model.specs.Real.{nought, unit, within}
use Rattle.model.specs.Draw.{drawn}
use Rattle.model.specs.Setting.{children, exponent_of, crossover, mutate, Operators, tournament, brood}
use Rattle.model.specs.Refusal.{whole_eta, bad_operators}
use Rattle.settings.specs.Candidate.{parent_at, parents_in}
use Rattle.settings.proofs.Candidates.{winner-below}

-- the winner that a draw gives is one of the n
pub won_below : (ranks : ℕ → ℕ) (n s i t : ℕ) → 0 < n → drawn i t ≡ tournament ranks n s → i < n
won_below ranks n s i t h e = omega (arith, drawn-value e, winner-below ranks n s h)

-- operators that are not bad have etas that can be cast
module _ (probability crossover_eta_of mutation_eta_of : Float) (h : bad_operators probability crossover_eta_of mutation_eta_of ≡ false) where
  good : (within nought unit probability && (whole_eta crossover_eta_of && whole_eta mutation_eta_of)) ≡ true
  unfolding bad_operators
  good = not-false _ h

  pub crossover_eta_lem : whole_eta crossover_eta_of ≡ true
  crossover_eta_lem = and_left (whole_eta crossover_eta_of) (whole_eta mutation_eta_of) (and_right (within nought unit probability) (whole_eta crossover_eta_of && whole_eta mutation_eta_of) good)

  pub mutation_eta_lem : whole_eta mutation_eta_of ≡ true
  mutation_eta_lem = and_right (whole_eta crossover_eta_of) (whole_eta mutation_eta_of) (and_right (within nought unit probability) (whole_eta crossover_eta_of && whole_eta mutation_eta_of) good)

module _ (o : Operators) (words : List ℕ) (count : ℕ) (ranks : ℕ → ℕ) (some : 0 < count) where
  size : length (parents_in o.dims o.dim_count words count) ≡ count
  unfolding parents_in
  size = list_below-length (parent_at o.dims o.dim_count words) count

  row : (i : ℕ) → i < count → get_or (parents_in o.dims o.dim_count words count) i [] ≡ parent_at o.dims o.dim_count words i
  unfolding parents_in
  row i h = list_below-at (parent_at o.dims o.dim_count words) count [] i h

  pub brood_is : (s i t j u v w z k m : ℕ) (P Q A B C D : List ParamValue) → drawn i t ≡ tournament ranks count s → drawn j u ≡ tournament ranks count t
      → P ≡ parent_at o.dims o.dim_count words i → Q ≡ parent_at o.dims o.dim_count words j → k ≡ exponent_of o.crossover_eta_of → m ≡ exponent_of o.mutation_eta_of
      → drawn (children A B) v ≡ crossover o.dims o.dim_count o.probability k P Q u → drawn C w ≡ mutate o.dims o.dim_count A m v
      → drawn D z ≡ mutate o.dims o.dim_count B m w → drawn (children C D) z ≡ brood o (parents_in o.dims o.dim_count words count) ranks s
  unfolding brood
  brood_is s i t j u v w z k m P Q A B C D e1 e2 eP eQ ek em e3 e4 e5 =
      let hi = won_below ranks count s i t some e1 in
      let hj = won_below ranks count t j u some e2 in
      rw (size, ← e1, ← e2, row i hi, row j hj, ← eP, ← eQ, ← ek, ← e3, ← em, ← e4, ← e5)
