-- What a session with a window remembers once a generation is bred (document 02, M-109): how much it is, that 8 lets each own part pass, and where it stands
-- behind the plans' room.
use Prim.Native.Nat.{ℕ, suc, ◌+◌, ◌-◌, ◌*◌, ◌≤◌, ◌<◌}
use mathlib.Core.Path.{◌≡◌, refl, sym, ap, subst, ◌∙◌}
use mathlib.Core.Bool.{Bool, true, false, not, ◌&&◌, ◌||◌}
use mathlib.Core.List.{List, [], ◌∷◌, ◌++◌}
use Rattle.std.specs.Prelude.{Option, None, Some}
use native.Mathlib.Nat.{le_of_lt, le_trans, min-eq_left, min-eq_right, suc-mul, mul-le-mul_right}
use native.Mathlib.Numerals.{add-one}
use native.Mathlib.Omega.{arith}
use borrow.Author.Tests.{leb-true, not-false}
use lib.Dec.{T, leb}
use lib.Ieee.{Float, nan, binary64, lt, fits}
use lib.Ieee.Bits.{of_bits-to_bits}
use lib.ListN.{length, get_or, set, take, drop, replicate, length-append, length-take, length-drop, take-append-drop, get_or-replicate, get_or-append}
use lib.Seq.{sets, length-take-le, get_or-take, get_or-drop, get_or-append-add, take-set-le, take-append_seam}
use Rattle.list_laws.proofs.Below.{by_lt}
use Rattle.list_laws.proofs.Best.{among_all}
use Rattle.list_laws.proofs.Bools.{and_right, and_both}
use Rattle.list_laws.proofs.Built.{list_below-length, list_below-at, list_below-whole, over-long}
use Rattle.list_laws.proofs.Checks.{good-ideal-length, pool-plans}
use Rattle.list_laws.proofs.Runs.{in_run}
use Rattle.list_laws.proofs.Tests.{all_in-each, all_in-every}
use Rattle.model.specs.declared.Config.{Config}
use Rattle.model.specs.declared.Session.{Session}
use Rattle.model.specs.Lists.{list_below, all_in}
use Rattle.model.specs.Real.{real, bits, infinity}
use Rattle.model.specs.Plan.{plan_of, max_objectives}
use Rattle.model.specs.Association.{Request, objectives, value_of, shapers, ideal_of}
use Rattle.model.specs.Kept.{Selected, selected}
use Rattle.model.specs.Window.{max_window, least_remembered, most_remembered, own_part, own_words, ideal_after}
use Rattle.model.specs.Session.{state, start_by, start_ideal, most_words, memory_at, memory_in, memory_after, remembered_after}
use Rattle.model.specs.Refusal.{bad_window, is_infinity, good_entry, good_ideal, bad_pool}
use Rattle.model.specs.Property.{ConfigOk, SessionOk}
use Rattle.association_laws.specs.Measurable.{Measurable}
use Rattle.association_laws.proofs.Good.{measured-words, moved-good}
use Rattle.association_laws.proofs.Shapers.{shaper_below}
use Rattle.demand3_laws.specs.Facts.{Accepted}
use Rattle.demand3_laws.proofs.Passed.{some-objectives}
use Rattle.demand3_laws.proofs.Accepted.{selected-ideal}
use Rattle.session_laws.specs.Refused.{slid, Sound}
use Rattle.session_laws.proofs.Lists.{MemoryGood}
use Rattle.session_laws.proofs.Opened.{infinity-good, infinite-ideal}

-- ---- what is put from a place on leaves what stands before it

take_sets : (n : ℕ) (l : List ℕ) (i : ℕ) (s : List ℕ) → n ≤ i → take n (sets l i s) ≡ take n l
take_sets n l i [] h = refl
take_sets n l i (x ∷ s) h = take_sets n (set l i x) (suc i) s (omega arith) ∙ take-set-le n l i x h

pub sets_behind : (a b s : List ℕ) (at : ℕ) → length a ≤ at → sets (a ++ b) at s ≡ a ++ drop (length a) (sets (a ++ b) at s)
sets_behind a b s at h =
    sym (take-append-drop (length a) (sets (a ++ b) at s))
    ∙ ap (λ (x : List ℕ). x ++ drop (length a) (sets (a ++ b) at s)) (take_sets (length a) (a ++ b) at s h ∙ take-append_seam a b)

-- ---- the words remembered

module _ (s : Session) (pool : List ℕ) (r : Request) (same : objectives r ≡ s.config.n_obj) where
  abbrev m : ℕ
  m = s.config.n_obj

  abbrev n : ℕ
  n = s.progress.n_remembered

  abbrev most : ℕ
  most = most_remembered s.config.window

  abbrev joined : List ℕ
  joined = memory_in s pool ++ own_words r

  pub memory_length : length (memory_in s pool) ≡ n * m
  memory_length = list_below-length {A = ℕ} _ (n * m)

  pub own-length : length (own_words r) ≡ m
  unfolding own_words
  own-length = list_below-length (λ j. bits (own_part r j)) (objectives r) ∙ same

  one_more : (n + 1) * m ≡ n * m + m
  one_more = ap (λ (k : ℕ). k * m) (add-one n) ∙ suc-mul n m

  pub joined_length : length joined ≡ (n + 1) * m
  joined_length = omega (arith, length-append (memory_in s pool) (own_words r), memory_length, own-length, one_more)

  -- as many generations as the window has beside the present one, or all
  pub after-length : length (memory_after s pool r) ≡ remembered_after s * m
  unfolding memory_after
  after-length =
      let left = length-drop (length joined - most * m) joined in
      by_lt most (n + 1)
      (λ h. let less : most * m ≤ (n + 1) * m = mul-le-mul_right m (le_of_lt h) in
      let e : length joined - (length joined - most * m) ≡ most * m = omega (arith, joined_length, less) in
      left ∙ e ∙ sym (ap (λ (k : ℕ). k * m) (min-eq_right (le_of_lt h))))
      (λ h. let less : (n + 1) * m ≤ most * m = mul-le-mul_right m h in
      let e : length joined - (length joined - most * m) ≡ (n + 1) * m = omega (arith, joined_length, less) in
      left ∙ e ∙ sym (ap (λ (k : ℕ). k * m) (min-eq_left h)))

  -- they fit where they are to stand
  pub after-fits : remembered_after s * m ≤ most_words s.config
  after-fits = mul-le-mul_right m (let h : remembered_after s ≤ most = omega arith in h)

  pub memory_stands : (q : List ℕ) → memory_at s.config + remembered_after s * m ≤ length q
      → list_below (λ i. get_or (sets q (memory_at s.config) (memory_after s pool r)) (memory_at s.config + i) 0) (remembered_after s * m) ≡ memory_after s pool r
  memory_stands q fits =
      list_below-whole _ (remembered_after s * m) 0 (memory_after s pool r) after-length
      (λ t h. in_run q (memory_at s.config) (memory_after s pool r) t (omega (arith, after-length, h)) (omega (arith, fits, h)))

  -- each passes the ideal's test of 8, where those before it and the own part do
  abbrev test : ℕ → Bool
  test w = good_entry (real w)

  pub after-good : MemoryGood s pool → ((j : ℕ) → j < objectives r → test (bits (own_part r j)) ≡ true) → all_in test (memory_after s pool r) ≡ true
  unfolding memory_after own_words
  after-good before own =
      let d = length joined - most * m in
      all_in-every test 0 (drop d joined) (λ k h.
      let l : d + k < length joined = omega (arith, length-drop d joined, h) in
      ap test (get_or-drop d joined k 0)
      ∙ by_lt (d + k) (length (memory_in s pool))
      (λ g. ap test (get_or-append (memory_in s pool) (own_words r) 0 (d + k) g) ∙ all_in-each test 0 (memory_in s pool) before (d + k) g)
      (λ g. let i = d + k - length (memory_in s pool) in
      let e : d + k ≡ length (memory_in s pool) + i = omega (arith, g) in
      let j : i < objectives r = omega (arith, l, g, length-append (memory_in s pool) (own_words r), list_below-length (λ j. bits (own_part r j)) (objectives r)) in
      ap (λ (x : ℕ). test (get_or joined x 0)) e ∙ ap test (get_or-append-add (memory_in s pool) (own_words r) i 0)
      ∙ ap test (list_below-at (λ j. bits (own_part r j)) (objectives r) 0 i j) ∙ own i j))

-- ---- the own part of a pool of words that 8 does not apply to

-- the pool with no ideal before it
abbrev alone : Request → Request
alone r = record {
  edition = r.edition;
  marks = r.marks;
  divisions = r.divisions;
  size = r.size;
  count = r.count;
  plans = r.plans;
  ideal = take (objectives r) (replicate max_objectives infinity);
  state = r.state;
}

module _ (r : Request) (word : ℕ → ℕ → ℕ) (same : (p : ℕ) → r.plans p ≡ plan_of (word p)) (few : objectives r ≤ max_objectives) (pool : bad_pool r ≡ false) where
  alone-pool : bad_pool (alone r) ≡ false
  unfolding bad_pool
  alone-pool = ap not (and_both _ _ (pool-plans r pool) (infinite-ideal (objectives r) few))

  infinity-fits : T (fits binary64 infinity)
  unfolding fits
  infinity-fits = tt

  measured : Measurable (alone r)
  measured = measured-words (alone r) word same few alone-pool
      (λ j h. subst (λ (x : Float). T (fits binary64 x))
      (sym (get_or-take (objectives r) (replicate max_objectives infinity) j nan h ∙ get_or-replicate max_objectives j infinity nan (omega (arith, h, few)))) infinity-fits)

  pub own-good : (j : ℕ) → j < objectives r → good_entry (own_part r j) ≡ true
  unfolding own_part
  own-good j k = among_all lt (λ (x : Float). good_entry x ≡ true) infinity (λ p. value_of r p j) (shapers r) infinity-good
      (λ p i. ap (λ (b : Bool). b || is_infinity (value_of r p j)) (measured.values p j (shaper_below r p i) k))

  own_double : (j : ℕ) → j < objectives r → T (fits binary64 (own_part r j))
  unfolding own_part
  own_double j k = among_all lt (λ (x : Float). T (fits binary64 x)) infinity (λ p. value_of r p j) (shapers r) infinity-fits
      (λ p i. measured.doubles p j (shaper_below r p i) k)

  -- it is a double, and so remembered as it is
  pub own_back : (j : ℕ) → j < objectives r → real (bits (own_part r j)) ≡ own_part r j
  own_back j k = of_bits-to_bits binary64 (own_part r j) (own_double j k)

  pub own-passes : (j : ℕ) → j < objectives r → good_entry (real (bits (own_part r j))) ≡ true
  own-passes j k = ap good_entry (own_back j k) ∙ own-good j k

-- ---- the ideal afterwards is good too

pub after-ideal : (o : Option ℕ) (r : Request) → Accepted r → (sel : Selected) → sel ≡ selected r → good_ideal (objectives r) (ideal_after o r sel) ≡ true
after-ideal None r accepted sel e = ap (λ (x : Selected). good_ideal (objectives r) x.ideal) e ∙ selected-ideal r accepted
after-ideal (Some w) r accepted sel e = moved-good r accepted.pool accepted.rows

-- ---- what was opened bounds it

pub window-few : (o : Option ℕ) → bad_window o ≡ false → most_remembered o < max_window
window-few None e = omega arith
window-few (Some w) e = let h = leb-true w max_window (and_right (leb 1 w) _ (not-false _ e)) in omega (arith, h)

pub objectives-few : (c : Config) → ConfigOk c → c.n_obj ≤ max_objectives
objectives-few c ok = omega (arith, length-take-le c.n_obj c.directions ok.objectives, (some-objectives _ ok.directions).1)

-- ---- a session with the ideal that its selection starts from

start-room : (o : Option ℕ) (s : Session) (pool : List ℕ) → s.config.n_obj ≤ length s.ideal_point → s.config.n_obj ≤ length (start_by o s pool)
start-room None s pool h = h
start-room (Some w) s pool h =
    le_trans h
    (over-long (list_below (least_remembered pool (memory_at s.config) s.config.n_obj s.progress.n_remembered) s.config.n_obj) s.ideal_point)

pub slid-sound : (s : Session) (pool cs ps ns other : List ℕ) → SessionOk (state s cs ps ns other) → Sound (slid s pool)
unfolding start_ideal
slid-sound s pool cs ps ns other ok = record {
  config = ok.config;
  dimensions = ok.dimensions;
  ideal = start-room s.config.window s pool
      (omega (arith, good-ideal-length s.config.n_obj (take s.config.n_obj s.ideal_point) ok.ideal, length-take s.config.n_obj s.ideal_point));
}
