-- Plans found by their numbers: the last record of one in a history, its place in a generation, and the records bred from.
use Prim.Native.Nat.{ℕ, zero, suc, ◌+◌, ◌-◌, ◌*◌, ◌≤◌, ◌<◌}
use mathlib.Core.Path.{◌≡◌, refl, sym, ap, ap₂, ◌∙◌}
use mathlib.Core.Bool.{Bool, false, not, ◌||◌, or-false}
use mathlib.Core.List.{List, [], ◌∷◌}
use mathlib.Core.Logic.{⊎_elim}
use native.Mathlib.Nat.{eq-or-lt_of_le, add-zero}
use native.Mathlib.Omega.{arith}
use borrow.Author.Tests.{eq-eqb, ne_eqb, lt-ltb, le-ltb, leb-true, leb-false}
use lib.Dec.{eqb, leb, ltb}
use lib.ListN.{length, get_or, take, drop, length-drop}
use lib.Seq.{length-take-le, sets, get_or-drop}
use Rattle.list_laws.proofs.Bools.{by_bool}
use Rattle.list_laws.proofs.Built.{list_below-length, list_below-take, join_below-more, over_run}
use Rattle.session_pool_laws.proofs.Children.{comers-few, child_few, children-length}
use Rattle.list_laws.proofs.First.{last_below_nowhere, last_below-at, last_below-same}
use Rattle.model.specs.Lists.{any_below, last_below, list_below, join_below, has, over, place_in}
use Rattle.model.specs.Plan.{plan_of, plan_at, plan_count, plan_words}
use Rattle.model.specs.Session.{record_of, block_of, numbers_of, child_of, children_of}
use Rattle.list_laws.proofs.Rows.{join_below_run}
use Rattle.list_laws.proofs.Members.{has_nil, has_cons, has-append, has-place}
use Rattle.list_laws.proofs.Tests.{any_below-same}

-- ---- the last record of a number

abbrev pub is_record : List ℕ → ℕ → ℕ → Bool
is_record history plan k = eqb (get_or history (k * plan_words) 0) plan

number_at : (history : List ℕ) (k : ℕ) → (plan_at history k).number ≡ get_or history (k * plan_words) 0
unfolding plan_of
number_at history k = ap (λ i. get_or history i 0) (add-zero (k * plan_words))

module _ (history : List ℕ) (plan : ℕ) where
  by-words : record_of history plan ≡ last_below (is_record history plan) (plan_count history)
  unfolding record_of
  by-words = last_below-same _ _ (plan_count history) (λ t l. ap (λ x. eqb x plan) (number_at history t))

  pub record_found : (k : ℕ) → k < plan_count history → get_or history (k * plan_words) 0 ≡ plan
      → ((t : ℕ) → k < t → t < plan_count history → is_record history plan t ≡ false) → record_of history plan ≡ k
  record_found k l e h = by-words ∙ last_below-at (is_record history plan) (plan_count history) k l (eq-eqb _ plan e) h

  pub record_nowhere : ((t : ℕ) → t < plan_count history → is_record history plan t ≡ false) → record_of history plan ≡ plan_count history
  record_nowhere h = by-words ∙ last_below_nowhere (is_record history plan) (plan_count history) h

-- one record more, from the end, that is of another number
pub others-more : (history : List ℕ) (plan n j : ℕ) → j < n → (get_or history ((n - 1 - j) * plan_words) 0 ≡ plan → ⊥)
    → ((t : ℕ) → n - j ≤ t → t < n → is_record history plan t ≡ false) → (t : ℕ) → n - (j + 1) ≤ t → t < n → is_record history plan t ≡ false
others-more history plan n j l e h t a b =
    ⊎_elim
    (λ v. let w : t ≡ n - 1 - j = omega arith in ap (is_record history plan) w ∙ ne_eqb _ plan e)
    (λ m. h t (omega arith) b)
    (eq-or-lt_of_le a)

-- a number waits where it is that of one of the first n plans
has-below : (f : ℕ → ℕ) (n q : ℕ) → has (list_below f n) q ≡ any_below (λ t. eqb (f t) q) n
unfolding list_below any_below
has-below f zero q = has_nil q
has-below f (suc n) q =
    has-append (list_below f n) (f n ∷ []) q
    ∙ ap₂ ◌||◌ (has-below f n q) (has_cons (f n) [] q ∙ ap (λ (b : Bool). eqb (f n) q || b) (has_nil q) ∙ or-false (eqb (f n) q))

pub waits-by : (pool : List ℕ) (plan n : ℕ) → has (numbers_of pool n) plan ≡ any_below (is_record pool plan) n
waits-by pool plan n = has-below _ n plan ∙ any_below-same _ _ n (λ t l. ap (λ x. eqb x plan) (number_at pool t))

-- a number is new among the first n where its place is past them
pub is_new-by : (ps : List ℕ) (n plan i : ℕ) → n ≤ length ps → i ≡ place_in (take n ps) plan → not (has (take n ps) plan) ≡ leb n i
is_new-by ps n plan i h e =
    ap not (has-place (take n ps) plan ∙ ap₂ (λ (a b : ℕ). ltb a b) (sym e) (length-take-le n ps h))
    ∙ by_bool (leb n i)
    (λ b. ap not (le-ltb i n (leb-true n i b)) ∙ sym b)
    (λ b. ap not (lt-ltb i n (leb-false n i b)) ∙ sym b)

-- ---- the records bred from

-- the part of a history that a record takes
pub part-block : (history : List ℕ) (k : ℕ) → k < plan_count history → take (k * plan_words + plan_words - k * plan_words) (drop (k * plan_words) history) ≡ block_of history k
part-block history k h =
    let n : k * plan_words + plan_words - k * plan_words ≡ plan_words = omega arith in
    ap (λ x. take x (drop (k * plan_words) history)) n
    ∙ list_below-take (λ j. get_or history (k * plan_words + j) 0) plan_words 0 (drop (k * plan_words) history) (omega (arith, length-drop (k * plan_words) history)) (λ t l. get_or-drop (k * plan_words) history t 0)

-- the next child has room behind i of them, where there is room for all
pub child_room : (waiting history plans : List ℕ) (i size len : ℕ) → i < size → size * plan_words ≤ len → length (children_of waiting history plans i) + plan_words ≤ len
child_room waiting history plans i size len h room =
    omega (arith, children-length waiting history plans i, comers-few waiting plans i)

-- and is put behind them
pub children-more : (waiting history plans old to : List ℕ) (i at : ℕ) → length (children_of waiting history plans i) + plan_words ≤ length old
    → to ≡ over (children_of waiting history plans i) old → at ≡ length (children_of waiting history plans i)
    → sets to at (child_of waiting history plans i) ≡ over (children_of waiting history plans (i + 1)) old
children-more waiting history plans old to i at room e f =
    let a = children_of waiting history plans i in
    let b = child_of waiting history plans i in
    ap₂ (λ (x : List ℕ) (k : ℕ). sets x k b) e f ∙ over_run a b old (length a) refl (omega (arith, child_few waiting history plans i))
    ∙ ap (λ l. over l old) (sym (join_below-more (child_of waiting history plans) i))

-- one block more behind i of them
pub blocks_more : (f : ℕ → ℕ) (history old pool : List ℕ) (i : ℕ) → i * plan_words + plan_words ≤ length old → pool ≡ over (join_below (λ i. block_of history (f i)) i) old
    → sets pool (i * plan_words) (block_of history (f i)) ≡ over (join_below (λ i. block_of history (f i)) (i + 1)) old
blocks_more f history old pool i room g =
    ap (λ b. sets b (i * plan_words) (block_of history (f i))) g
    ∙ join_below_run (λ i. block_of history (f i)) plan_words i (λ t u. list_below-length _ plan_words) old (omega (arith, list_below-length (λ j. get_or history (f i * plan_words + j) 0) plan_words))
