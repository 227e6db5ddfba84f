-- THE SELECTION THAT THE WORDS ASK FOR IS THE FILE'S. The parser's words and marks, as a request of `nsga3_select`, and the request that the file is: the
-- refusals 2, 3, 4, 7 and 8 are the same, and where neither 2 nor 8 applies the two are one request.
use Prim.Native.Nat.{ℕ, ◌+◌, ◌*◌, ◌≤◌, ◌<◌}
use mathlib.Core.Path.{◌≡◌, refl, ap, sym, ◌∙◌, fun_ext}
use mathlib.Core.Bool.{Bool, true, false, not, ◌&&◌}
use mathlib.Core.List.{List, [], ◌∷◌, map}
use native.Mathlib.Nat.{mul-le-mul_right, le_trans}
use native.Mathlib.Omega.{arith}
use borrow.Author.Tests.{not-false, lt-ltb, le-ltb, lt-leb, leb-true}
use lib.Dec.{leb}
use lib.Ieee.{Float}
use lib.ListN.{length, get_or, take, replicate, length-map, get_or-eq_default}
use lib.Seq.{length-take-le, get_or-take, take_all}
use Rattle.model.specs.Lists.{list_below, all_in}
use Rattle.model.specs.Real.{infinity}
use Rattle.model.specs.declared.Edition.TheVariants.{First}
use Rattle.model.specs.Edition.{most_plans}
use Rattle.model.specs.Plan.{Plan, plan_of, plan_at, plan_count, plan_words, max_objectives, max_constraints}
use Rattle.model.specs.Association.{Request, objectives}
use Rattle.model.specs.PoolFile.{PoolFile, no_plan, file_request}
use Rattle.model.specs.Refusal.{Room, bad_directions, bad_divisions, bad_pool, good_plan, good_plans, good_ideal, no_room, select_refusal}
use Rattle.model.specs.Calls.{word_request}
use Rattle.list_laws.proofs.Checks.{pool-plan, good-constraints}
use Rattle.list_laws.proofs.Bools.{by_bool, and_left, and_right, or_right}
use Rattle.list_laws.proofs.Below.{by_lt}
use Rattle.list_laws.proofs.Tests.{all_below-same}
use Rattle.pool_file.specs.declared.Header.{Header}
use Rattle.pool_plans.specs.Blocks.{roomed}
use Rattle.pool_file.specs.Parsing.{file_of, Pool, capped}
use Rattle.pool_plans.proofs.Blocks.{plan_of-same}
use Rattle.pool_laws.proofs.Shapes.{Shape, Whole, parse-whole}

-- ---- marks

capped-low : (k : ℕ) → k ≤ 1 → capped k ≡ k
capped-low k h = rw (lt-ltb k 2 (omega arith))

capped_high : (k : ℕ) → 2 ≤ k → capped k ≡ 2
capped_high k h = rw (le-ltb k 2 h)

capped-good : (k : ℕ) → leb (capped k) 1 ≡ leb k 1
capped-good k = by_lt k 2
    (λ h. ap (λ (x : ℕ). leb x 1) (capped-low k (omega arith)))
    (λ h. ap (λ (x : ℕ). leb x 1) (capped_high k h) ∙ sym (lt-leb k 1 (omega arith)))

marks-good : (l : List ℕ) → all_in (λ k. leb k 1) (map capped l) ≡ all_in (λ k. leb k 1) l
unfolding all_in
marks-good [] = refl
marks-good (k ∷ l) = rw (capped-good k, marks-good l)

marks-same : (l : List ℕ) → all_in (λ k. leb k 1) l ≡ true → map capped l ≡ l
unfolding all_in
marks-same [] h = refl
marks-same (k ∷ l) h =
    let a : k ≤ 1 = leb-true k 1 (and_left (leb k 1) _ h) in
    rw (capped-low k a, marks-same l (and_right (leb k 1) _ h))

directions-same : (l : List ℕ) → bad_directions (map capped l) ≡ bad_directions l
unfolding bad_directions
directions-same l = rw (length-map, marks-good l)

directions-good : (l : List ℕ) → bad_directions l ≡ false → all_in (λ k. leb k 1) l ≡ true
unfolding bad_directions
directions-good l h = not-false _ (or_right (not (leb 1 (length l) && leb (length l) 8)) _ h)

-- ---- plans

-- no words form no plan
plan_of-zero : plan_of (λ j. 0) ≡ no_plan
unfolding plan_of list_below
plan_of-zero = refl

roomed-same : (m : ℕ) (p : Plan) → m ≤ max_objectives → Shape m p → p.constraint_count ≤ max_constraints → roomed p ≡ p
roomed-same m p h s c =
    let r = s.row in
    let k = s.constraints in
    rw (take_all 8 p.row (omega arith), take_all 16 p.constraints (omega arith))

roomed-good : (m : ℕ) (p : Plan) → m ≤ max_objectives → Shape m p → good_plan m (roomed p) ≡ good_plan m p
unfolding good_plan
roomed-good m p h s = by_bool (leb p.constraint_count max_constraints)
    (λ e. ap (good_plan m) (roomed-same m p h s (leb-true p.constraint_count max_constraints e)))
    (λ e. rw e)

-- ---- requests

-- a request of words and a request of a file: what applies to one applies to the other, and where 2 and 8 do not, they are one
pub record Carried (w r : Request) : Type 0 where
  pub edition : w.edition ≡ r.edition
  pub two : bad_directions w.marks ≡ bad_directions r.marks
  pub size : w.size ≡ r.size
  pub four : bad_divisions (objectives w) w.divisions ≡ bad_divisions (objectives r) r.divisions
  pub count : w.count ≡ r.count
  pub eight : bad_pool w ≡ bad_pool r
  pub same : bad_directions r.marks ≡ false → bad_pool r ≡ false → w ≡ r

pub select_same : (w r : Request) → Carried w r → (room : Room) → select_refusal w room ≡ select_refusal r room
unfolding select_refusal no_room
select_same w r c room = rw (c.eight, c.four, c.two, c.size, c.count, c.edition)

abbrev asked : List ℕ → ℕ → ℕ → ℕ → (ℕ → Plan) → List Float → ℕ → Request
asked marks divisions size count plans ideal state =
    record { edition = First; marks = marks; divisions = divisions; size = size; count = count; plans = plans; ideal = ideal; state = state }

request-same : {m m' : List ℕ} {h h' s s' n n' g g' : ℕ} {p p' : ℕ → Plan} {i i' : List Float} → m ≡ m' → h ≡ h' → s ≡ s' → n ≡ n' → p ≡ p' → i ≡ i' → g ≡ g'
    → asked m h s n p i g ≡ asked m' h' s' n' p' i' g'
request-same a b c d e f k = rw (a, b, c, d, e, f, k)

pool-same : (w r : Request) → objectives w ≡ objectives r → w.count ≡ r.count
    → ((p : ℕ) → good_plan (objectives w) (w.plans p) ≡ good_plan (objectives r) (r.plans p)) → w.ideal ≡ r.ideal → bad_pool w ≡ bad_pool r
unfolding bad_pool
pool-same w r a b c d =
    ap (λ (t : Bool). not (t && good_ideal (objectives w) w.ideal))
    (all_below-same (λ p. good_plan (objectives w) (w.plans p)) (λ p. good_plan (objectives r) (r.plans p)) w.count (λ p l. c p)
    ∙ ap (good_plans (objectives r) r.plans) b)
    ∙ ap (λ (k : ℕ). not (good_plans (objectives r) r.plans r.count && good_ideal k w.ideal)) a
    ∙ ap (λ (l : List Float). not (good_plans (objectives r) r.plans r.count && good_ideal (objectives r) l)) d

-- where 8 does not apply, no plan has over 16 constraints
pool-good : (r : Request) → bad_pool r ≡ false → (p : ℕ) → p < r.count → (r.plans p).constraint_count ≤ max_constraints
pool-good r h p l = good-constraints (objectives r) (r.plans p) (pool-plan r h p l)

-- ---- the words and the file

-- the request that the parser's words of k plans form
abbrev pub stored : Header → List ℕ → List ℕ → ℕ → Request
stored h directions pool k =
    word_request First (take (k * plan_words) pool) (take h.m directions) h.divisions h.size (record { s = h.seed })
    (replicate (length (take h.m directions)) infinity)

-- its marks and divisions are refused as the file's
module _ (file : List ℕ) (h : Header) (directions pool : List ℕ) (w : Pool file h directions pool) (few : h.m ≤ max_objectives) where
  marks : take h.m directions ≡ map capped w.values
  marks = w.marks few

  marks-length : length (take h.m directions) ≡ length w.values
  marks-length = ap length marks ∙ length-map w.values capped

  pub two-same : bad_directions (take h.m directions) ≡ bad_directions w.values
  two-same = ap bad_directions marks ∙ directions-same w.values

  pub four_same : bad_divisions (length (take h.m directions)) h.divisions ≡ bad_divisions (length w.values) h.divisions
  four_same = ap (λ (k : ℕ). bad_divisions k h.divisions) marks-length

module _ (file : List ℕ) (h : Header) (directions pool : List ℕ) (w : Pool file h directions pool) (few : h.m ≤ max_objectives) (small : h.count ≤ most_plans First)
    (room : most_plans First * plan_words ≤ length pool) where
  abbrev f : PoolFile
  f = file_of h w.values w.read

  whole : Whole f
  whole = parse-whole file f w.parsed

  abbrev words : List ℕ
  words = take (h.count * plan_words) pool

  words-length : length words ≡ h.count * plan_words
  words-length = length-take-le (h.count * plan_words) pool (le_trans (mul-le-mul_right plan_words small) room)

  plan_in_lem : (p : ℕ) → p < h.count → plan_at words p ≡ roomed (get_or f.plans p no_plan)
  plan_in_lem p l =
      let k : (p + 1) * plan_words ≤ h.count * plan_words = mul-le-mul_right plan_words (omega arith) in
      plan_of-same (λ j. get_or words (p * plan_words + j) 0) (λ j. get_or pool (p * plan_words + j) 0)
      (λ j u. get_or-take (h.count * plan_words) pool (p * plan_words + j) 0 (omega arith))
      ∙ w.plans small p l

  plan-past : (p : ℕ) → h.count ≤ p → plan_at words p ≡ get_or f.plans p no_plan
  plan-past p l =
      let k : h.count * plan_words ≤ p * plan_words = mul-le-mul_right plan_words l in
      let n = words-length in
      let c = whole.count in
      plan_of-same (λ j. get_or words (p * plan_words + j) 0) (λ j. 0) (λ j u. get_or-eq_default words 0 (omega arith))
      ∙ plan_of-zero ∙ sym (get_or-eq_default f.plans no_plan (omega arith))

  shape : (p : ℕ) → p < h.count → Shape h.m (get_or f.plans p no_plan)
  shape p l = whole.plans p l

  -- a plan with at most 16 constraints is stored as it is
  plan-same : (p : ℕ) → p < h.count → (get_or f.plans p no_plan).constraint_count ≤ max_constraints → plan_at words p ≡ get_or f.plans p no_plan
  plan-same p l c = plan_in_lem p l ∙ roomed-same h.m (get_or f.plans p no_plan) few (shape p l) c

  -- in the pool or past it
  good-same : (p : ℕ) → good_plan h.m (plan_at words p) ≡ good_plan h.m (get_or f.plans p no_plan)
  good-same p = by_lt p h.count
      (λ l. ap (good_plan h.m) (plan_in_lem p l) ∙ roomed-good h.m (get_or f.plans p no_plan) few (shape p l))
      (λ l. ap (good_plan h.m) (plan-past p l))

  objectives-words : length (take h.m directions) ≡ h.m
  objectives-words = marks-length file h directions pool w few ∙ whole.marks

  count-words : plan_count words ≡ h.count
  count-words = let n = words-length in omega arith

  pub carried : Carried (stored h directions pool h.count) (file_request f)
  carried =
      let g : (p : ℕ) → good_plan (length (take h.m directions)) (plan_at words p) ≡ good_plan (length f.marks) (get_or f.plans p no_plan) =
      λ p. ap (λ (k : ℕ). good_plan k (plan_at words p)) objectives-words ∙ good-same p
      ∙ ap (λ (k : ℕ). good_plan k (get_or f.plans p no_plan)) (sym whole.marks) in
      let i = ap (λ (k : ℕ). replicate k infinity) objectives-words in
      record {
        edition = refl;
        two = two-same file h directions pool w few;
        size = refl;
        four = four_same file h directions pool w few;
        count = count-words;
        eight = pool-same (stored h directions pool h.count) (file_request f) (marks-length file h directions pool w few) count-words g i;
        same = λ a b. request-same
            (w.marks few ∙ marks-same f.marks (directions-good f.marks a)) refl refl count-words
            (fun_ext (λ p. by_lt p h.count (λ l. plan-same p l (pool-good (file_request f) b p l)) (plan-past p)))
            i refl;
      }
