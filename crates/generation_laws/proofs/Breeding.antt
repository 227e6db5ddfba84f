-- Breeding looks at the ranks of its parents only; the offspring of a kept list from the words of its parents and a list of their ranks.
use Prim.Native.Nat.{ℕ, ◌+◌, ◌/◌, ◌≤◌, ◌<◌}
use mathlib.Core.Path.{◌≡◌, ap, ap₂, sym, subst, ◌∙◌}
use mathlib.Core.Bool.{true, false, cond}
use mathlib.Core.List.{List, []}
use native.Mathlib.Omega.{arith}
use lib.Dec.{leb}
use lib.ListN.{length, get_or, take, drop}
use lib.Seq.{length-take-le, get_or-take}
use Rattle.list_laws.proofs.Built.{over_below}
use Rattle.list_laws.proofs.Draws.{in_turn-same}
use Rattle.list_laws.proofs.Tests.{all_below-each}
use Rattle.rng_util.proofs.Draws.{draw_usize-below}
use Rattle.model.specs.declared.ParamValue.{ParamValue}
use Rattle.model.specs.Lists.{all_below, list_below, over}
use Rattle.model.specs.Draw.{Drawn, drawn, draw_usize}
use Rattle.model.specs.Plan.{plan_at, plan_count}
use Rattle.model.specs.Setting.{words_of, Operators, tournament, brood, broods, offspring_of, parents_of}
use Rattle.model.specs.Refusal.{bad_dimensions, breedable}
use Rattle.settings.specs.Candidate.{parent_at, parents_in}
use Rattle.candidate_laws.proofs.Sound.{AllHeld, AllSound}
use Rattle.candidate_laws.proofs.Words.{parents-back}
use Rattle.candidate_laws.proofs.Extracted.{parents_of-sound}
use Rattle.candidate_laws.proofs.Bred.{offspring_of-sound}
use Rattle.generation_laws.specs.Bred.{rank_at, bred_of_words}

-- ---- ranks that agree for each parent

module _ (f g : ℕ → ℕ) (n : ℕ) (some : 0 < n) (same : (i : ℕ) → i < n → f i ≡ g i) where
  tournament-same : (s : ℕ) → tournament f n s ≡ tournament g n s
  unfolding tournament
  tournament-same s =
      let a = draw_usize n s in
      let b = draw_usize n a.state in
      ap₂ (λ (x y : ℕ). drawn (cond (leb x y) a.value b.value) b.state) (same a.value (draw_usize-below n s some)) (same b.value (draw_usize-below n a.state some))

module _ (o : Operators) (ps : List (List ParamValue)) (f g : ℕ → ℕ) (some : 0 < length ps) (same : (i : ℕ) → i < length ps → f i ≡ g i) where
  brood-same : (s : ℕ) → brood o ps f s ≡ brood o ps g s
  unfolding brood
  brood-same s =
      let e = tournament-same f g (length ps) some same in
      rw (e s, e (tournament g (length ps) s).state)

  broods-same : (k s : ℕ) → broods o ps f k s ≡ broods o ps g k s
  broods-same k s = in_turn-same _ [] (λ i born. brood o ps f) (λ i born. brood o ps g) (λ i born. Unit {0}) s k tt (λ i born t l u. tt) (λ i born t l u. brood-same t)

  pub offspring-same : (size s : ℕ) → offspring_of o ps f size s ≡ offspring_of o ps g size s
  unfolding offspring_of
  offspring-same size s = rw (broods-same ((size + 1) / 2) s)

-- ---- the parents of a kept list

module _ (o : Operators) (held : AllHeld o.dims o.dim_count) (good : bad_dimensions o.dims o.dim_count ≡ false) (pool fronts kept : List ℕ) (size s : ℕ)
    (able : all_below (λ p. breedable o.dims o.dim_count (plan_at pool p)) (plan_count pool) ≡ true) (enough : size ≤ length kept)
    (in_pool : (i : ℕ) → i < size → get_or kept i 0 < plan_count pool) where
  abbrev parents : Drawn (List (List ParamValue))
  parents = parents_of o.dims o.dim_count (plan_at pool) (take size kept) s

  parents-sound : AllSound o.dims o.dim_count size parents.value
  parents-sound =
      let z = length-take-le size kept enough in
      subst (λ k. AllSound o.dims o.dim_count k parents.value) z
      (parents_of-sound o.dims o.dim_count held good (plan_at pool) (take size kept) s
      (λ i h. let l : i < size = omega arith in subst (λ p. breedable o.dims o.dim_count (plan_at pool p) ≡ true) (sym (get_or-take size kept i 0 l))
      (all_below-each (λ p. breedable o.dims o.dim_count (plan_at pool p)) (plan_count pool) able (get_or kept i 0) (in_pool i l))))

  -- and so is what is bred from them
  pub bred-sound : 0 < size → AllSound o.dims o.dim_count size (bred_of_words o pool fronts kept size s).value
  unfolding bred_of_words
  bred-sound some = offspring_of-sound o held good parents.value (rank_at fronts kept) size some parents-sound size parents.state

  read_back : (old : List ℕ) → parents_in o.dims o.dim_count (over (words_of parents.value) old) size ≡ parents.value
  unfolding parents_in parent_at
  read_back old = parents-back o.dims o.dim_count size parents.value parents-sound (drop (length (words_of parents.value)) old)

  -- what the steps of the code leave is the offspring
  pub bred_is : 0 < size → (words old ranks ranks₀ : List ℕ) (t : ℕ) → words ≡ over (words_of parents.value) old → t ≡ parents.state
      → ranks ≡ over (list_below (rank_at fronts kept) size) ranks₀
      → offspring_of o (parents_in o.dims o.dim_count words size) (λ i. get_or ranks i 0) size t ≡ bred_of_words o pool fronts kept size s
  unfolding bred_of_words
  bred_is some words old ranks ranks₀ t e f q =
      let z = parents-sound.whole in
      ap₂ (λ (w : List (List ParamValue)) (u : ℕ). offspring_of o w (λ i. get_or ranks i 0) size u)
      (ap (λ w. parents_in o.dims o.dim_count w size) e ∙ read_back old) f
      ∙ offspring-same o parents.value (λ i. get_or ranks i 0) (rank_at fronts kept) (omega arith)
      (λ i h. over_below (rank_at fronts kept) size ranks ranks₀ i 0 q (omega arith))
      size parents.state
