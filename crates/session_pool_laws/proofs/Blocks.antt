-- Plans' words one after the other: how many plans they are, which plan stands where, and tests and numbers of all of them.
use Prim.Native.Nat.{ℕ, zero, suc, ◌+◌, ◌*◌, ◌≤◌, ◌<◌, min}
use mathlib.Core.Path.{◌≡◌, refl, sym, ap, ap₂, ◌∙◌}
use mathlib.Core.Bool.{Bool, ◌&&◌, and-true, and_assoc}
use mathlib.Core.List.{List, [], ◌∷◌, ◌++◌}
use native.Mathlib.Nat.{min-le_right, zero-add, add-zero, add-suc}
use native.Mathlib.Omega.{arith}
use lib.ListN.{length, get_or, take, length-append, get_or-append}
use lib.Seq.{get_or-append-add, get_or-take}
use Rattle.list_laws.proofs.Tests.{all_below-same}
use Rattle.list_laws.proofs.Built.{list_below-length, list_below-at, list_below-same, list_below_join}
use Rattle.list_laws.proofs.Rows.{row_lt}
use Rattle.model.specs.Lists.{all_below, list_below}
use Rattle.model.specs.Real.{real}
use Rattle.model.specs.Plan.{Plan, plan_of, plan_at, plan_count, plan_words, setting_in, max_settings}
use Rattle.model.specs.Session.{block_of, numbers_of}

-- only the words of its block matter to a plan
pub plan_of-same : (f g : ℕ → ℕ) → ((j : ℕ) → j < plan_words → f j ≡ g j) → plan_of f ≡ plan_of g
unfolding plan_of
plan_of-same f g h =
    let r = min-le_right (g 1) 8 in
    let c = min-le_right (g 10) 16 in
    let s = min-le_right (g 27) max_settings in
    rw (
      h 0 (omega arith),
      h 1 (omega arith),
      h 10 (omega arith),
      h 27 (omega arith),
      list_below-same (λ j. real (f (2 + j))) (λ j. real (g (2 + j))) (min (g 1) 8) (λ t l. ap real (h (2 + t) (omega arith))),
      list_below-same (λ j. real (f (11 + j))) (λ j. real (g (11 + j))) (min (g 10) 16) (λ t l. ap real (h (11 + t) (omega arith))),
      list_below-same (setting_in f) (setting_in g) (min (g 27) max_settings) (λ t l. rw (h (28 + 3 * t) (omega arith), h (29 + 3 * t) (omega arith), h (30 + 3 * t) (omega arith))),
    )

-- ---- a plan's block

pub block-length : (ws : List ℕ) (k : ℕ) → length (block_of ws k) ≡ plan_words
block-length ws k = list_below-length (λ j. get_or ws (k * plan_words + j) 0) plan_words

-- where words agree from a plan's first on, the plan is the same
pub plan-same : (v w : List ℕ) (i k : ℕ) → ((j : ℕ) → j < plan_words → get_or v (i * plan_words + j) 0 ≡ get_or w (k * plan_words + j) 0) → plan_at v i ≡ plan_at w k
plan-same v w i k h = plan_of-same (λ j. get_or v (i * plan_words + j) 0) (λ j. get_or w (k * plan_words + j) 0) h

pub block-plan : (ws : List ℕ) (k : ℕ) → plan_at (block_of ws k) 0 ≡ plan_at ws k
block-plan ws k = plan-same (block_of ws k) ws 0 k (λ j l. rw zero-add (list_below-at (λ j. get_or ws (k * plan_words + j) 0) plan_words 0 j l))

-- ---- the front of a slice

pub take-plan : (ws : List ℕ) (n i : ℕ) → i < n → plan_at (take (n * plan_words) ws) i ≡ plan_at ws i
take-plan ws n i h =
    plan-same (take (n * plan_words) ws) ws i i (λ j l. get_or-take (n * plan_words) ws (i * plan_words + j) 0 (row_lt i j n plan_words h l))

pub take_numbers : (ws : List ℕ) (n : ℕ) → numbers_of (take (n * plan_words) ws) n ≡ numbers_of ws n
take_numbers ws n = list_below-same _ _ n (λ i h. ap (λ (p : Plan). p.number) (take-plan ws n i h))

-- ---- a test of the numbers below n + k

all_split : (f : ℕ → Bool) (n k : ℕ) → all_below f (n + k) ≡ (all_below f n && all_below (λ t. f (n + t)) k)
unfolding all_below
all_split f n zero = ap (all_below f) (add-zero n) ∙ sym (and-true (all_below f n))
all_split f n (suc k) =
    ap (all_below f) (add-suc n k) ∙ ap (λ (b : Bool). b && f (n + k)) (all_split f n k) ∙ and_assoc (all_below f n) (all_below (λ t. f (n + t)) k) (f (n + k))

-- ---- one slice behind another, the first of n whole plans

module _ (a b : List ℕ) (n : ℕ) (whole : length a ≡ n * plan_words) where
  pub front-plan : (i : ℕ) → i < n → plan_at (a ++ b) i ≡ plan_at a i
  front-plan i h = plan-same (a ++ b) a i i (λ j l. get_or-append a b 0 (i * plan_words + j) (omega (arith, row_lt i j n plan_words h l)))

  pub behind-plan : (i : ℕ) → plan_at (a ++ b) (n + i) ≡ plan_at b i
  behind-plan i =
      plan-same (a ++ b) b (n + i) i
      (λ j l. let e : (n + i) * plan_words + j ≡ length a + (i * plan_words + j) = omega arith in
      ap (λ (k : ℕ). get_or (a ++ b) k 0) e ∙ get_or-append-add a b (i * plan_words + j) 0)

  pub joined-count : plan_count (a ++ b) ≡ n + plan_count b
  joined-count = omega (arith, length-append a b)

  -- a test of all plans of both is the test of the first's and of the second's
  pub joined-test : (f : Plan → Bool) (k : ℕ) → all_below (λ p. f (plan_at (a ++ b) p)) (n + k) ≡ (all_below (λ p. f (plan_at a p)) n && all_below (λ p. f (plan_at b p)) k)
  joined-test f k =
      all_split (λ p. f (plan_at (a ++ b) p)) n k
      ∙ ap₂ ◌&&◌ (all_below-same _ _ n (λ i h. ap f (front-plan i h))) (all_below-same _ _ k (λ i h. ap f (behind-plan i)))

  pub joined_numbers : (k : ℕ) → numbers_of (a ++ b) (n + k) ≡ numbers_of a n ++ numbers_of b k
  joined_numbers k =
      sym (list_below_join (λ i. (plan_at (a ++ b) i).number) n k)
      ∙ ap₂ ◌++◌ (list_below-same _ _ n (λ i h. ap (λ (p : Plan). p.number) (front-plan i h)))
      (list_below-same _ _ k (λ i h. ap (λ (p : Plan). p.number) (behind-plan i)))
