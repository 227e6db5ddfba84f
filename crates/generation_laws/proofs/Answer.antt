-- The answer of a generation step, from what its parts leave.
use Prim.Native.Nat.{ℕ, ◌≤◌, ◌<◌}
use mathlib.Core.Path.{◌≡◌, refl, ap, ap₂, sym, subst, ◌∙◌}
use mathlib.Core.Bool.{Bool, true, false, cond}
use mathlib.Core.List.{List}
use Rattle.std.specs.Prelude.{None, Some, Ok, Err}
use native.Mathlib.Omega.{arith}
use borrow.Author.Tests.{lt-ltb}
use lib.Ieee.{Float}
use lib.ListN.{length, get_or, take}
use Rattle.list_laws.proofs.Built.{list_below-length, over-take, over-at, over_below}
use Rattle.list_laws.proofs.Draws.{draw_all-length}
use Rattle.model.specs.declared.Refusal.{Refusal}
use Rattle.model.specs.declared.Edition.{Edition}
use Rattle.model.specs.declared.ParamValue.{ParamValue}
use Rattle.model.specs.declared.Rng.{Rng}
use Rattle.model.specs.Edition.{ranks_by_rows, moves_to_step}
use Rattle.model.specs.Lists.{over}
use Rattle.model.specs.Draw.{Drawn, drawn}
use Rattle.model.specs.Plan.{plan_at, plan_count}
use Rattle.model.specs.Row.{row_beats}
use Rattle.model.specs.Front.{front_of, front_list}
use Rattle.model.specs.Association.{Request, dominance}
use Rattle.model.specs.Kept.{is_split, selected_split, selected_whole, by_split, selected}
use Rattle.model.specs.Setting.{Operators, words_of, WordsWithin, sample_candidates, parent_in, parents_of, bred_of, born_of, moved_by, rank_in, rank_beats, rank_of, generation_of, generation_of_one, by_pool, generation}
use Rattle.model.specs.Refusal.{bad_dimensions, step_refusal}
use Rattle.model.specs.Calls.{word_request, Lent, room_of, SelectExit, answered, select_accepted, select_by, select_of, Selects, StepExit, step_exit, step_accepted, step_by, step_of, Steps, generation_exit, laid}
use Rattle.demand3_laws.proofs.Passed.{passed, size-limits}
use Rattle.demand3_laws.proofs.Calls.{plan_at-row, generation-many, steps}
use Rattle.candidate_laws.proofs.Sound.{AllHeld}
use Rattle.candidate_laws.proofs.KeptPlans.{kept-length, kept-below}
use Rattle.candidate_laws.proofs.Generations.{generation-words}
use Rattle.generation_laws.specs.Bred.{rank_at, bred_of_words}
use Rattle.generation_laws.proofs.Accepted.{dimensions-pass, selects}
use Rattle.generation_laws.proofs.Breeding.{offspring-same}

-- an exit that keeps n plans
abbrev kept-exit : ℕ → ℕ → List Float → Lent → List ℕ → StepExit
kept-exit n s i at out = step_exit (answered (Ok n) s) i at out

module _ (edition : Edition) (o : Operators) (pool directions : List ℕ) (divisions size : ℕ) (g : Rng) (ideal : List Float) (at : Lent) (old : List ℕ) where
  abbrev r : Request
  r = word_request edition pool directions divisions size g ideal

  -- ---- a pool of one

  pub one-exit : plan_count pool < 2 → (out : List ℕ) (h : Rng) → out ≡ over (words_of (sample_candidates o.dims o.dim_count size g.s).value) old
      → h.s ≡ (sample_candidates o.dims o.dim_count size g.s).state
      → step_exit (record { outcome = Ok 0; rng = h }) ideal at out ≡ step_accepted o r at old
  unfolding step_accepted generation generation_of_one
  one-exit few out h e f =
      ap₂ (λ s w. kept-exit 0 s ideal at w) f e
      ∙ ap (λ b. generation_exit (by_pool b o r) at old) (sym (lt-ltb (plan_count pool) 2 few))

  -- ---- a pool of two or more

  module _ (refused : step_refusal o r (room_of at) (length old) ≡ None) (two : 2 ≤ plan_count pool) where
    -- the selection is not refused
    pub select_exit_lem : (x : SelectExit) → Selects r at x → x ≡ select_accepted r at
    unfolding select_of
    select_exit_lem x h = h.whole ∙ ap (λ n. select_by n r at) (selects (passed o r (room_of at) (length old) refused) two)

    module _ (x : SelectExit) (e : x ≡ select_accepted r at) where
      kept_is : x.slices.kept ≡ over (selected r).kept at.kept
      unfolding select_accepted
      kept_is = ap (λ (y : SelectExit). y.slices.kept) e

      state_is : x.answer.rng.s ≡ (selected r).state
      unfolding select_accepted
      state_is = ap (λ (y : SelectExit). y.answer.rng.s) e

      place_is : (i : ℕ) → i < size → get_or x.slices.kept i 0 ≡ get_or (selected r).kept i 0
      place_is i h = ap (λ l. get_or l i 0) kept_is ∙ over-at (selected r).kept at.kept i 0 (omega (arith, kept-length r))

      -- its plans are in the pool
      pub kept-in_pool : (i : ℕ) → i < size → get_or x.slices.kept i 0 < plan_count pool
      kept-in_pool i h =
          let z = kept-length r in
          subst (λ p. p < plan_count pool) (sym (place_is i h)) (kept-below r (omega arith) i (omega arith))

      -- the fronts that it handed out are those of the constraint rule, split or not
      fronts-by : (b : Bool) → (by_split b r).fronts ≡ front_list (dominance r) (plan_count pool)
      unfolding selected_split selected_whole
      fronts-by true = refl
      fronts-by false = refl

      pub fronts_are : take (plan_count pool) x.slices.fronts ≡ front_list (dominance r) (plan_count pool)
      unfolding select_accepted selected front_list
      fronts_are =
          let all = front_list (dominance r) (plan_count pool) in
          ap (λ (y : SelectExit). take (plan_count pool) y.slices.fronts) e
          ∙ ap (λ l. take (plan_count pool) (over l at.fronts)) (fronts-by (is_split r))
          ∙ over-take all at.fronts (plan_count pool) (list_below-length (front_of (dominance r) (plan_count pool)) (plan_count pool))

      -- so that the edition's fronts are what the plans are ranked by
      ranked-by : (b : Bool) → cond b (front_list (row_beats directions (plan_at pool)) (plan_count pool)) (take (plan_count pool) x.slices.fronts)
          ≡ front_list (cond b (row_beats directions (plan_at pool)) (dominance r)) (plan_count pool)
      ranked-by true = refl
      ranked-by false = fronts_are

      -- and what is bred from them, so ranked, is the generation's offspring
      module _ (fronts fronts₀ : List ℕ) (sorted : fronts ≡ over (cond (ranks_by_rows edition) (front_list (row_beats directions (plan_at pool)) (plan_count pool)) (take (plan_count pool) x.slices.fronts)) fronts₀) where
        abbrev ranks : ℕ → ℕ
        ranks = rank_in (rank_beats r) (plan_count pool) (selected r).kept

        rank_is : (i : ℕ) → i < size → rank_at fronts x.slices.kept i ≡ ranks i
        unfolding front_list
        rank_is i h =
            let front = front_of (rank_beats r) (plan_count pool) in
            over_below front (plan_count pool) fronts fronts₀ (get_or x.slices.kept i 0) 0 (sorted ∙ ap (λ l. over l fronts₀) (ranked-by (ranks_by_rows edition))) (kept-in_pool i h) ∙ ap front (place_is i h)

        bred-generation : bred_of_words o pool fronts x.slices.kept size x.answer.rng.s ≡ bred_of o (plan_at pool) (rank_of r (selected r).kept) (selected r).kept size (selected r).state
        unfolding bred_of_words rank_of
        bred-generation =
            let taken : take size x.slices.kept ≡ (selected r).kept = ap (take size) kept_is ∙ over-take (selected r).kept at.kept size (kept-length r) in
            let ps = parents_of o.dims o.dim_count (plan_at pool) (selected r).kept (selected r).state in
            let z : length ps.value ≡ size = draw_all-length (parent_in o.dims o.dim_count (plan_at pool) (selected r).kept) (length (selected r).kept) (selected r).state ∙ kept-length r in
            let some : 0 < size = (size-limits size (passed o r (room_of at) (length old) refused).size).0 in
            ap₂ (λ k s. bred_of o (plan_at pool) (rank_at fronts x.slices.kept) k size s) taken state_is
            ∙ offspring-same o ps.value (rank_at fronts x.slices.kept) ranks (omega arith) (λ i h. rank_is i (omega arith)) size ps.state

        -- as the edition has them: as bred, or moved to a step
        abbrev born : Drawn (List (List ParamValue)) → Drawn (List (List ParamValue))
        born d = drawn (moved_by (moves_to_step edition) o.dims o.dim_count d.value) d.state

        born-generation : born (bred_of_words o pool fronts x.slices.kept size x.answer.rng.s) ≡ drawn (generation_of o r).offspring (generation_of o r).state
        unfolding generation_of born_of
        born-generation = ap born bred-generation

        pub bred-exit : (out : List ℕ) (h : Rng)
            → out ≡ over (words_of (moved_by (moves_to_step edition) o.dims o.dim_count (bred_of_words o pool fronts x.slices.kept size x.answer.rng.s).value)) old
            → h.s ≡ (bred_of_words o pool fronts x.slices.kept size x.answer.rng.s).state
            → step_exit (record { outcome = Ok size; rng = h }) x.ideal x.slices out ≡ step_accepted o r at old
        unfolding select_accepted step_accepted generation_of
        bred-exit out h f q =
            ap₂ (λ s w. kept-exit size s x.ideal x.slices w)
            (q ∙ ap (λ (d : Drawn (List (List ParamValue))). d.state) born-generation) (f ∙ ap (λ (d : Drawn (List (List ParamValue))). over (words_of d.value) old) born-generation)
            ∙ ap (λ (y : SelectExit). kept-exit size (generation_of o r).state y.ideal y.slices (over (words_of (generation_of o r).offspring) old)) e
            ∙ ap (λ n. kept-exit n (generation_of o r).state (selected r).ideal (laid (selected r) at)
            (over (words_of (generation_of o r).offspring) old)) (sym (kept-length r))
            ∙ ap (λ s. generation_exit s at old) (sym (generation-many o r two))

  -- ---- the promise

  module _ (held : bad_dimensions o.dims o.dim_count ≡ false → AllHeld o.dims o.dim_count) where
    bounds : step_refusal o r (room_of at) (length old) ≡ None → WordsWithin o.dims o.dim_count size (step_of o r at old).offspring
    unfolding step_of step_accepted
    bounds e =
        let ok = passed o r (room_of at) (length old) e in
        subst (λ n. WordsWithin o.dims o.dim_count size (step_by n o r at old).offspring) (sym e)
        (generation-words o r (held (dimensions-pass ok)) (dimensions-pass ok) ok.parents old)

    promise : (x : StepExit) → x ≡ step_of o r at old → Steps o r at old x
    promise x e = subst (Steps o r at old) (sym e) (steps r (plan_at-row pool) o at old bounds)

    pub refused_so : (n : Refusal) → Some n ≡ step_refusal o r (room_of at) (length old)
        → Steps o r at old (record { answer = record { outcome = Err n; rng = g }; ideal = ideal; slices = at; offspring = old })
    unfolding step_of
    refused_so n e = promise _ (ap (λ m. step_by m o r at old) e)

    pub stepped_so : None ≡ step_refusal o r (room_of at) (length old) → (x : StepExit) → x ≡ step_accepted o r at old → Steps o r at old x
    unfolding step_of
    stepped_so e x h = promise x (h ∙ ap (λ m. step_by m o r at old) e)
