-- A plan in its block of words.
use Prim.Native.Nat.{ℕ, suc, ◌+◌, ◌*◌, ◌≤◌, ◌<◌, min}
use mathlib.Core.Path.{◌≡◌, ap, sym, ◌∙◌}
use mathlib.Core.Logic.{◌⊎◌, ⊎_elim}
use mathlib.Core.List.{List, map}
use Rattle.std.specs.Prelude.{None}
use native.Mathlib.Nat.{add-zero, min_comm, min-le_left, min-le_right, le-min}
use native.Mathlib.Omega.{arith}
use lib.ListN.{length, get_or, take, drop, set, length-take, length-map, length-set, get_or-map}
use lib.Seq.{sets, length-sets, get_or-take, get_or-set_same, get_or-set_other}
use Rattle.model.specs.Lists.{list_below}
use Rattle.model.specs.Real.{real}
use Rattle.model.specs.Plan.{Plan, measured_plan, setting_in, plan_of, plan_from, plan_words, max_settings}
use Rattle.model.specs.PoolFile.{pure, number, many, measured, rows as form}
use Rattle.list_laws.proofs.Built.{list_below-same, list_below-whole}
use Rattle.pool_plans.specs.Blocks.{Reads, Words, counted, Block, roomed}
use Rattle.pool_plans.proofs.Storing.{reads-count, stored_plain}
use Rattle.list_laws.proofs.Runs.{before_run, sets_past, in_run}

-- ---- the plan that words form

-- the first values, as far as there is room
values_of : (word : ℕ → ℕ) (vs : List ℕ) (n room : ℕ) → length vs ≡ n → ((j : ℕ) → j < n → j < room → word j ≡ get_or vs j 0)
    → list_below (λ j. real (word j)) (min n room) ≡ take room (map real vs)
values_of word vs n room e h =
    let a = min-le_left n room in
    let b = min-le_right n room in
    list_below-whole (λ j. real (word j)) (min n room) (real 0) (take room (map real vs))
    (length-take room (map real vs) ∙ ap (min room) (length-map vs real ∙ e) ∙ min_comm room n)
    (λ t u. ap real (h t (omega arith) (omega arith)) ∙ sym (get_or-take room (map real vs) t (real 0) (omega arith) ∙ get_or-map real vs t 0))

-- a plan of m values and c constraints, as a file has it
abbrev made : ℕ → List ℕ → ℕ → List ℕ → Plan
made m vs c cs = measured_plan m (map real vs) c (map real cs)

plan_of-made : (word : ℕ → ℕ) (m c : ℕ) (vs cs : List ℕ) → length vs ≡ m → length cs ≡ c
    → word 0 ≡ 0 → word 1 ≡ m → ((j : ℕ) → j < m → j < 8 → word (2 + j) ≡ get_or vs j 0)
    → word 10 ≡ c → ((j : ℕ) → j < c → j < 16 → word (11 + j) ≡ get_or cs j 0) → word 27 ≡ 0
    → plan_of word ≡ roomed (made m vs c cs)
unfolding plan_of list_below
plan_of-made word m c vs cs a b w0 w1 w2 w10 w11 w27 =
    rw (w0, w1, w10, w27, values_of (λ j. word (2 + j)) vs m 8 a w2, values_of (λ j. word (11 + j)) cs c 16 b w11)

-- only the words of the block matter
pub plan_of-same : (f g : ℕ → ℕ) → ((j : ℕ) → j < plan_words → f j ≡ g j) → plan_of f ≡ plan_of g
unfolding plan_of
plan_of-same f g h =
    let r = min-le_right (g 1) 8 in
    let c = min-le_right (g 10) 16 in
    let s = min-le_right (g 27) max_settings in
    rw (
      h 0 (omega arith),
      h 1 (omega arith),
      h 10 (omega arith),
      h 27 (omega arith),
      list_below-same (λ j. real (f (2 + j))) (λ j. real (g (2 + j))) (min (g 1) 8) (λ t l. ap real (h (2 + t) (omega arith))),
      list_below-same (λ j. real (f (11 + j))) (λ j. real (g (11 + j))) (min (g 10) 16) (λ t l. ap real (h (11 + t) (omega arith))),
      list_below-same (setting_in f) (setting_in g) (min (g 27) max_settings) (λ t l. rw (h (28 + 3 * t) (omega arith), h (29 + 3 * t) (omega arith), h (30 + 3 * t) (omega arith))),
    )

-- ---- what is stored

-- the counts stand at their four places, and the other words stay
module _ (l : List ℕ) (base m c : ℕ) (room : base + plan_words ≤ length l) where
  abbrev first_two : List ℕ
  first_two = set (set l base 0) (base + 1) m

  past_two : (i : ℕ) → (i ≡ base + 10 → ⊥) → (i ≡ base + 27 → ⊥) → get_or (counted l base m c) i 0 ≡ get_or first_two i 0
  unfolding counted
  past_two i e10 e27 = get_or-set_other (set first_two (base + 10) c) (base + 27) i 0 0 e27 ∙ get_or-set_other first_two (base + 10) i c 0 e10

  counted_0 : get_or (counted l base m c) (base + 0) 0 ≡ 0
  counted_0 = rw add-zero
      (past_two base (λ e. omega arith) (λ e. omega arith)
      ∙ get_or-set_other (set l base 0) (base + 1) base m 0 (λ e. omega arith) ∙ get_or-set_same l base 0 0 (omega arith))

  counted_1 : get_or (counted l base m c) (base + 1) 0 ≡ m
  counted_1 = past_two (base + 1) (λ e. omega arith) (λ e. omega arith) ∙ get_or-set_same (set l base 0) (base + 1) m 0 (simp length-set (omega arith))

  counted_10 : get_or (counted l base m c) (base + 10) 0 ≡ c
  unfolding counted
  counted_10 =
      get_or-set_other (set first_two (base + 10) c) (base + 27) (base + 10) 0 0 (λ e. omega arith)
      ∙ get_or-set_same first_two (base + 10) c 0 (simp length-set (omega arith))

  counted_27 : get_or (counted l base m c) (base + 27) 0 ≡ 0
  unfolding counted
  counted_27 = get_or-set_same (set first_two (base + 10) c) (base + 27) 0 0 (simp length-set (omega arith))

  counted-other : (i : ℕ) → (i ≡ base → ⊥) → (i ≡ base + 1 → ⊥) → (i ≡ base + 10 → ⊥) → (i ≡ base + 27 → ⊥) → get_or (counted l base m c) i 0 ≡ get_or l i 0
  counted-other i e0 e1 e10 e27 = past_two i e10 e27 ∙ get_or-set_other (set l base 0) (base + 1) i m 0 e1 ∙ get_or-set_other l base i 0 0 e0

-- as many as there is room for, of those that there are
taken_le : (room : ℕ) (vs : List ℕ) → length (take room vs) ≤ room
taken_le room vs = omega (arith, length-take room vs, min-le_left room (length vs))

taken_lt : (room n j : ℕ) (vs : List ℕ) → length vs ≡ n → j < n → j < room → j < length (take room vs)
taken_lt room n j vs e h g = let m : suc j ≤ min room (length vs) = le-min (omega arith) (omega arith) in omega (arith, length-take room vs)

module _ (l : List ℕ) (base m c : ℕ) (vs cs : List ℕ) (a : length vs ≡ m) (b : length cs ≡ c) (room : base + plan_words ≤ length l) where
  rows : List ℕ
  rows = sets l (base + 2) (take 8 vs)

  filled : List ℕ
  filled = sets rows (base + 11) (take 16 cs)

  rows-length : length rows ≡ length l
  unfolding rows
  rows-length = length-sets l (base + 2) (take 8 vs)

  filled-length : length filled ≡ length l
  unfolding filled
  filled-length = length-sets rows (base + 11) (take 16 cs) ∙ rows-length

  block : List ℕ
  block = counted filled base m c

  space : base + plan_words ≤ length filled
  space = omega (arith, filled-length)

  value-at : (j : ℕ) → j < m → j < 8 → get_or block (base + (2 + j)) 0 ≡ get_or vs j 0
  unfolding block filled rows
  value-at j h g =
      let e : base + (2 + j) ≡ base + 2 + j = omega arith in
      counted-other filled base m c space (base + (2 + j)) (λ z. omega arith) (λ z. omega arith) (λ z. omega arith) (λ z. omega arith)
      ∙ before_run rows (base + 11) (take 16 cs) (base + (2 + j)) (omega arith)
      ∙ ap (λ (k : ℕ). get_or rows k 0) e
      ∙ in_run l (base + 2) (take 8 vs) j (taken_lt 8 m j vs a h g) (omega arith)
      ∙ get_or-take 8 vs j 0 g

  constraint_at : (j : ℕ) → j < c → j < 16 → get_or block (base + (11 + j)) 0 ≡ get_or cs j 0
  unfolding block filled
  constraint_at j h g =
      let e : base + (11 + j) ≡ base + 11 + j = omega arith in
      counted-other filled base m c space (base + (11 + j)) (λ z. omega arith) (λ z. omega arith) (λ z. omega arith) (λ z. omega arith)
      ∙ ap (λ (k : ℕ). get_or filled k 0) e
      ∙ in_run rows (base + 11) (take 16 cs) j (taken_lt 16 c j cs b h g) (omega (arith, rows-length))
      ∙ get_or-take 16 cs j 0 g

  block-plan : plan_from block base ≡ roomed (made m vs c cs)
  unfolding block
  block-plan =
      plan_of-made (λ j. get_or block (base + j) 0) m c vs cs a b (counted_0 filled base m c space) (counted_1 filled base m c space) value-at
      (counted_10 filled base m c space) constraint_at (counted_27 filled base m c space)

  block-others : (i : ℕ) → (i < base) ⊎ (base + plan_words ≤ i) → get_or block i 0 ≡ get_or l i 0
  unfolding block filled rows
  block-others i w =
      let n8 = taken_le 8 vs in
      let n16 = taken_le 16 cs in
      ⊎_elim
      (λ h. counted-other filled base m c space i (λ z. omega arith) (λ z. omega arith) (λ z. omega arith) (λ z. omega arith)
      ∙ before_run rows (base + 11) (take 16 cs) i (omega arith) ∙ before_run l (base + 2) (take 8 vs) i (omega arith))
      (λ h. counted-other filled base m c space i (λ z. omega arith) (λ z. omega arith) (λ z. omega arith) (λ z. omega arith)
      ∙ sets_past 0 rows (base + 11) (take 16 cs) i (omega arith) ∙ sets_past 0 l (base + 2) (take 8 vs) i (omega arith))
      w

-- ---- the block, by how far its reader gets

module _ (file : List ℕ) (at m base : ℕ) (l : List ℕ) where
  pub block_none : many m number (drop at file) ≡ None → form m (drop at file) ≡ None
  unfolding form
  block_none n = rw n

  module _ (o₁ : List ℕ) (p : ℕ) (first : Words (λ v. v) file at m 8 (base + 2) l o₁ p) where
    pub block_no_count : number (drop p file) ≡ None → form m (drop at file) ≡ None
    unfolding form
    block_no_count f = rw (first.reads, f)

    module _ (c q : ℕ) (f : number (drop p file) ≡ pure c (drop q file)) where
      pub block-short : many c number (drop q file) ≡ None → form m (drop at file) ≡ None
      unfolding form
      block-short n = rw (first.reads, f, n)

      pub block-good : (o₂ : List ℕ) (next : ℕ) → Words (λ v. v) file q c 16 (base + 11) o₁ o₂ next → base + plan_words ≤ length l
          → Reads (form m) (λ t. Block base l (counted o₂ base m c) (measured m t)) file at next
      unfolding form block filled rows
      block-good o₂ next second room =
          let vs = first.value in
          let cs = second.value in
          let a = reads-count number file at _ m p first in
          let b = reads-count number file q _ c next second in
          let z : counted o₂ base m c ≡ block l base m c vs cs a b room =
          ap (λ (t : List ℕ). counted t base m c) (stored_plain 16 (base + 11) o₁ o₂ cs second.stored
          ∙ ap (λ (t : List ℕ). sets t (base + 11) (take 16 cs)) (stored_plain 8 (base + 2) l o₁ vs first.stored)) in
          record {
            value = record { values = vs; constraints = cs };
            reads = rw (first.reads, f, second.reads);
            stored = record {
              stored = ap (λ (t : List ℕ). plan_from t base) z ∙ block-plan l base m c vs cs a b room ∙ ap (λ (k : ℕ). roomed (made m vs k cs)) (sym b);
              others = λ i h. ap (λ (t : List ℕ). get_or t i 0) z ∙ block-others l base m c vs cs a b room i h;
            };
          }
