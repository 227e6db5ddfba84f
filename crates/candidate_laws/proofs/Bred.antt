-- Crossed and mutated candidates lie within their bounds, and so do the children of broods.
use Prim.Native.Nat.{ℕ, suc, ◌+◌, ◌/◌, ◌<◌}
use mathlib.Core.Path.{◌≡◌, subst}
use mathlib.Core.Bool.{true, false}
use mathlib.Core.List.{List, [], ◌∷◌, ◌++◌, append_assoc}
use native.Mathlib.Omega.{arith}
use lib.IntN.{pos}
use lib.Ieee.{Float, le}
use lib.ListN.{length, get_or}
use Rattle.list_laws.proofs.Bools.{by_bool}
use Rattle.list_laws.proofs.Places.{places_none, places-more, places-take}
use Rattle.list_laws.proofs.Draws.{in_turn-keeps, places-drawn}
use Rattle.model.specs.declared.Distribution.{Distribution}
use Rattle.model.specs.declared.ParamValue.{ParamValue}
use Rattle.model.specs.Real.{◌⊘◌, unit, of_whole}
use Rattle.model.specs.Setting.{Children, valid_dimension, draw_unit, exponent_of, no_value, setting_of, children, with_pair, crossover_runs, cross_all, crossover, mutate_maybe, mutate, Operators, tournament, brood, broods, offspring_of, with_both}
use Rattle.model.specs.Refusal.{bad_dimensions}
use Rattle.settings.proofs.Valid.{each}
use Rattle.settings.proofs.Candidates.{winner-below}
use Rattle.settings.proofs.InBounds.{Held}
use Rattle.variation_laws.proofs.Children.{Fit, crossed_in_bounds, mutated_in_bounds}
use Rattle.candidate_laws.specs.Bounds.{AllWithin}
use Rattle.candidate_laws.proofs.Sound.{AllHeld, Sound, AllSound, all-within}

record BothSound (dims : ℕ → Distribution) (n : ℕ) (c : Children) : Type 0 where
  first : Sound dims n c.first
  second : Sound dims n c.second

maybe_fit : (probability : Float) (d : Distribution) (v : ParamValue) (k s : ℕ) → Held d → valid_dimension d ≡ true → Fit d v → Fit d (mutate_maybe probability d v k s).value
unfolding mutate_maybe
maybe_fit probability d v k s h g f = by_bool (le probability (draw_unit s).value)
    (λ e. rw e f)
    (λ e. rw e (mutated_in_bounds d v k (draw_unit s).state h g f))

-- ---- whole candidates

module _ (dims : ℕ → Distribution) (n : ℕ) (h : AllHeld dims n) (b : bad_dimensions dims n ≡ false) where
  cross_all-sound : (p q : List ParamValue) (k s : ℕ) → Sound dims n p → Sound dims n q → BothSound dims n (cross_all dims n p q k s).value
  cross_all-sound p q k s sp sq =
      in_turn-keeps with_pair (children [] []) _ (BothSound dims) s n
      (record { first = places_none _ no_value; second = places_none _ no_value })
      (λ i c t l so_far. let fit = crossed_in_bounds (dims i) (setting_of p i) (setting_of q i) k t (h i l) (each dims n b i l) (sp.each i l) (sq.each i l) in
      record { first = places-more _ no_value i c.first _ so_far.first fit.0; second = places-more _ no_value i c.second _ so_far.second fit.1 })

  crossover-sound : (probability : Float) (k : ℕ) (p q : List ParamValue) (s : ℕ) → Sound dims n p → Sound dims n q → BothSound dims n (crossover dims n probability k p q s).value
  unfolding crossover
  crossover-sound probability k p q s sp sq = by_bool (crossover_runs probability (draw_unit s).value)
      (λ e. rw e (cross_all-sound p q k (draw_unit s).state sp sq))
      (λ e. rw e (record { first = sp; second = sq }))

  mutate-sound : (c : List ParamValue) (k s : ℕ) → Sound dims n c → Sound dims n (mutate dims n c k s).value
  mutate-sound c k s f =
      places-drawn _ (λ d v. Fit (dims d) v) no_value n s
      (λ j l t u. maybe_fit (unit ⊘ of_whole (pos n)) (dims j) (setting_of c j) k t (h j u) (each dims n b j u) (f.each j u))

-- ---- broods

module _ (o : Operators) (h : AllHeld o.dims o.dim_count) (b : bad_dimensions o.dims o.dim_count ≡ false) (parents : List (List ParamValue)) (ranks : ℕ → ℕ) (count : ℕ)
    (some : 0 < count) (a : AllSound o.dims o.dim_count count parents) where
  winner : (s : ℕ) → Sound o.dims o.dim_count (get_or parents (tournament ranks (length parents) s).value [])
  winner s = let e = a.whole in a.each _ (omega (arith, winner-below ranks (length parents) s (omega arith)))

  brood-sound : (s : ℕ) → BothSound o.dims o.dim_count (brood o parents ranks s).value
  unfolding brood
  brood-sound s =
      let p = tournament ranks (length parents) s in
      let q = tournament ranks (length parents) p.state in
      let c = crossover o.dims o.dim_count o.probability (exponent_of o.crossover_eta_of) (get_or parents p.value []) (get_or parents q.value []) q.state in
      let r = crossover-sound o.dims o.dim_count h b o.probability (exponent_of o.crossover_eta_of) _ _ q.state (winner s) (winner p.state) in
      record {
        first = mutate-sound o.dims o.dim_count h b _ (exponent_of o.mutation_eta_of) c.state r.first;
        second = mutate-sound o.dims o.dim_count h b _ (exponent_of o.mutation_eta_of) _ r.second;
      }

  broods-sound : (k s : ℕ) → AllSound o.dims o.dim_count (k + k) (broods o parents ranks k s).value
  broods-sound k s =
      in_turn-keeps with_both [] _ (λ i born. AllSound o.dims o.dim_count (i + i) born) s k (places_none _ [])
      (λ i born t l so_far. let c = brood-sound t in
      let m = places-more _ [] (suc (i + i)) _ _ (places-more _ [] (i + i) born _ so_far c.first) c.second in
      let e : suc (suc (i + i)) ≡ suc i + suc i = omega arith in
      subst (λ (j : ℕ). AllSound o.dims o.dim_count j (born ++ ((brood o parents ranks t).value.first ∷ (brood o parents ranks t).value.second ∷ []))) e
      (subst (AllSound o.dims o.dim_count (suc (suc (i + i)))) (append_assoc born _ _) m))

  pub offspring_of-sound : (size s : ℕ) → AllSound o.dims o.dim_count size (offspring_of o parents ranks size s).value
  unfolding offspring_of
  offspring_of-sound size s =
      let k = (size + 1) / 2 in
      places-take _ [] (k + k) size _ (omega arith) (broods-sound k s)

  pub offspring_of-within : (size s : ℕ) → AllWithin o.dims o.dim_count size (offspring_of o parents ranks size s).value
  offspring_of-within size s = all-within o.dims o.dim_count size _ (offspring_of-sound size s)
