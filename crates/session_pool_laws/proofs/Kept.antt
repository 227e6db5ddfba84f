-- The plans kept of a pool, block after block in the kept list's order: each is the pool's plan at its kept place, and their numbers differ where the pool's do.
use Prim.Native.Nat.{ℕ, ◌+◌, ◌*◌, ◌<◌}
use mathlib.Core.Path.{◌≡◌, sym, ap, subst, ◌∙◌}
use mathlib.Core.Bool.{Bool, true}
use mathlib.Core.List.{List, ◌++◌, map}
use native.Mathlib.Omega.{arith}
use lib.ListN.{length, get_or}
use Rattle.list_laws.proofs.Tests.{all_below-each, all_below-every}
use Rattle.list_laws.proofs.Built.{list_below-length, list_below-at, list_below-same, list_below-places, map_below}
use Rattle.list_laws.proofs.Rows.{join_below-length, join_below-front}
use Rattle.list_laws.proofs.Members.{different-places, distinct-map, get_d_in}
use Rattle.model.specs.Lists.{all_below, list_below, In, Distinct}
use Rattle.model.specs.Plan.{Plan, plan_at, plan_words}
use Rattle.model.specs.Session.{block_of, numbers_of, kept_words}
use Rattle.session_pool_laws.proofs.Blocks.{block-length, plan-same}

module _ (bred kept : List ℕ) (n : ℕ) where
  pub kept-length : length (kept_words bred kept n) ≡ n * plan_words
  kept-length = join_below-length (λ i. block_of bred (get_or kept i 0)) plan_words n (λ i h. block-length bred (get_or kept i 0))

  -- with anything behind them
  module _ (rest : List ℕ) where
    abbrev words : List ℕ
    words = kept_words bred kept n ++ rest

    kept_word : (i j : ℕ) → i < n → j < plan_words → get_or words (i * plan_words + j) 0 ≡ get_or bred (get_or kept i 0 * plan_words + j) 0
    kept_word i j h l =
        join_below-front (λ i. block_of bred (get_or kept i 0)) plan_words n (λ i h. block-length bred (get_or kept i 0)) rest i j 0 h l
        ∙ list_below-at (λ j. get_or bred (get_or kept i 0 * plan_words + j) 0) plan_words 0 j l

    pub kept_block : (i : ℕ) → i < n → block_of words i ≡ block_of bred (get_or kept i 0)
    kept_block i h = list_below-same _ _ plan_words (λ j l. kept_word i j h l)

    pub kept-plan : (i : ℕ) → i < n → plan_at words i ≡ plan_at bred (get_or kept i 0)
    kept-plan i h = plan-same words bred i (get_or kept i 0) (λ j l. kept_word i j h l)

    -- a test that every plan of the pool passes they pass
    pub kept_test : (f : Plan → Bool) (count : ℕ) → ((i : ℕ) → i < n → get_or kept i 0 < count) → all_below (λ p. f (plan_at bred p)) count ≡ true
        → all_below (λ p. f (plan_at words p)) n ≡ true
    kept_test f count within all = all_below-every _ n (λ i h. ap f (kept-plan i h) ∙ all_below-each (λ p. f (plan_at bred p)) count all (get_or kept i 0) (within i h))

    abbrev number_at : ℕ → ℕ
    number_at p = (plan_at bred p).number

    kept_numbers : length kept ≡ n → numbers_of words n ≡ map number_at kept
    kept_numbers e =
        list_below-same _ _ n (λ i h. ap (λ (p : Plan). p.number) (kept-plan i h)) ∙ ap (list_below (λ i. number_at (get_or kept i 0))) (sym e)
        ∙ sym (map_below number_at (λ i. get_or kept i 0) (length kept)) ∙ ap (map number_at) (list_below-places 0 kept)

    -- the pool's numbers tell its plans apart
    apart : (count : ℕ) → Distinct (numbers_of bred count) → (p q : ℕ) → p < count → q < count → number_at p ≡ number_at q → p ≡ q
    apart count d p q h l e =
        different-places (numbers_of bred count) d p q (omega (arith, list_below-length number_at count)) (omega (arith, list_below-length number_at count))
        (list_below-at number_at count 0 p h ∙ e ∙ sym (list_below-at number_at count 0 q l))

    pub kept-distinct : (count : ℕ) → length kept ≡ n → Distinct kept → ((p : ℕ) → In p kept → p < count) → Distinct (numbers_of bred count)
        → Distinct (numbers_of words n)
    kept-distinct count e d within differ =
        subst Distinct (sym (kept_numbers e)) (distinct-map number_at kept (λ p q m k s. apart count differ p q (within p m) (within q k) s) d)
