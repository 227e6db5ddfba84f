-- Breeding from its parts: what the step answers is what the session becomes, and the pool's words are the plans bred from.
use Rattle.std.proofs.Common.{◌≡◌, ℕ, ◌+◌, ◌*◌, ◌<◌, ◌≤◌, false, List, [], ◌++◌, length, get_or, take, drop, replicate, sym, refl, ap, ◌∙◌, subst, ap₂, ⊎_elim, le_trans, le_refl, le-add_right, mul-le-mul_right, arith, length-append, take-append-drop, length-take-le, Option, None, Some, Result}
use lib.Ieee.{Float, nan}
use lib.ListN.{length-replicate}
use lib.Seq.{sets}
use Rattle.list_laws.proofs.Built.{join_below-same, over-take, over-at, over-front, over_run, over-length}
use Rattle.list_laws.proofs.Checks.{then_last, good_length, pool-plan}
use Rattle.list_laws.proofs.Members.{get_d_in}
use Rattle.model.specs.declared.Refusal.TheVariants as why
use Rattle.model.specs.declared.Refusal.{Refusal}
use Rattle.model.specs.declared.Edition.{Edition}
use Rattle.model.specs.declared.Selection.{Selection}
use Rattle.model.specs.declared.Session.{Session}
use Rattle.model.specs.Edition.{waiting_of}
use Rattle.model.specs.Lists.{list_below, over}
use Rattle.model.specs.Real.{bits}
use Rattle.model.specs.Plan.{plan_at, plan_count, plan_words, max_objectives}
use Rattle.std.specs.Prelude.{unwrap_or}
use Rattle.model.specs.Association.{Request, objectives}
use Rattle.model.specs.Kept.{Selected, selected}
use Rattle.model.specs.Window.{max_window, own_words, last_of, ideal_after}
use Rattle.model.specs.Demand3.{Demand3}
use Rattle.model.specs.Setting.{Operators, Generation, generation, words_of}
use Rattle.model.specs.Session.{State, state, long_enough, numbers_of, children_of, kept_words, block_of, bred_from, bred_session, breed, request_of, ideal_left, operators_of, most_words, pool_room, memory_at, memory_in, memory_after, start_ideal, max_words}
use Rattle.model.specs.Refusal.{Room, step_refusal, max_size, max_pool}
use Rattle.model.specs.Calls.{Lent, StepExit, room_of, step_accepted, refused_by}
use Rattle.model.specs.Property.{SessionOk}
use Rattle.demand3_laws.specs.Facts.{Accepted}
use Rattle.demand3_laws.proofs.Passed.{some-objectives}
use Rattle.demand3_laws.proofs.Accepted.{demand3}
use Rattle.demand3_laws.proofs.Calls.{plan_at-row, step-accepted, generation_selects, request-objectives}
use Rattle.session_pool_laws.proofs.Kept.{kept-length}
use Rattle.session_pool_laws.proofs.Children.{comers-few, children-length}
use Rattle.session_laws.specs.Refused.{slid, request_from, word_refusal, breed_refusal, short_refusal}
use Rattle.session_laws.proofs.Steps.{short_ok}
use Rattle.session_laws.proofs.Request.{waits-by, waits-most, waits-size, front_length, bred-enough, bred-few, words-objectives, most-within, step-refusal}
use Rattle.session_laws.proofs.Window.{window-few, slid-sound}
use Rattle.session_breeding.proofs.Lines.{ideal_is, memory_is, memory_same, left-same}
use Rattle.session_breeding.specs.Breeding.{Stepped, stepped, taken_of, lent_with, step_on, Told, ideal_by, own_by, Keeping, Poised, Gatherable, bred_on, bred_exit, breed_by, breed_of}

-- the step by equal operators
module _ (o p : Operators) (r : Request) (e : o ≡ p) where
  pub refusal-by : (room : Room) (n : ℕ) → step_refusal p r room n ≡ None → step_refusal o r room n ≡ None
  refusal-by room n f = ap (λ x. step_refusal x r room n) e ∙ f

  pub taken_by : (x : StepExit) (at : Lent) (words : List ℕ) → x ≡ step_accepted o r at words → taken_of x ≡ taken_of (step_accepted p r at words)
  taken_by x at words f = ap taken_of f ∙ ap (λ y. taken_of (step_accepted y r at words)) e

-- ---- the kept plans' words, taken up in between

pub waits_front : (words kept room after pool : List ℕ) (n m : ℕ) → n ≡ m → after ≡ over (kept_words words kept n) room → m * plan_words ≤ length pool
    → sets pool 0 (take (n * plan_words) after) ≡ over (kept_words words kept m) pool
waits_front words kept room after pool n m e f fits =
    let front : take (n * plan_words) after ≡ kept_words words kept m =
    ap (take (n * plan_words)) f ∙ over-take (kept_words words kept n) room (n * plan_words) (kept-length words kept n) ∙ ap (kept_words words kept) e in
    ap (sets pool 0) front ∙ over-front (kept_words words kept m) pool (omega (arith, kept-length words kept m))

-- a list that begins with a kept list names the same plans
kept_same : (words kept rest : List ℕ) (n : ℕ) → n ≤ length kept → kept_words words (over kept rest) n ≡ kept_words words kept n
kept_same words kept rest n h = join_below-same _ _ n (λ i l. ap (block_of words) (over-at kept rest i 0 (omega arith)))

waiting_few : (e : Edition) (size : ℕ) → waiting_of e size ≤ size
waiting_few e size = ⊎_elim (λ h. omega arith) (λ h. omega arith) (waits-by e size)

-- ---- breeding from the plans that words hold

module _ (s : Session) (words : List ℕ) (room pool candidates : ℕ) (p : Poised s words room pool candidates) where
  abbrev size : ℕ
  size = s.config.population_size

  abbrev waits : ℕ
  waits = waiting_of s.config.edition size

  abbrev blank : List ℕ
  blank = replicate max_size 0

  abbrev unlined : List ℕ
  unlined = replicate max_pool 0

  abbrev request : Request
  request = request_from s words

  pub step-good : step_refusal (operators_of s) request (room_of (lent_with blank unlined)) candidates ≡ None
  step-good =
      step-refusal s words p.ok.config p.ok.dimensions p.enough p.most (room_of (lent_with blank unlined)) candidates
      (omega (arith, length-replicate {A = ℕ} max_size 0)) (omega (arith, length-replicate {A = ℕ} max_size 0)) (omega (arith, length-replicate {A = ℕ} max_pool 0))
      (omega (arith, length-replicate {A = ℕ} max_pool 0)) p.candidates
      ∙ p.accepted

  abbrev bred : Generation
  bred = generation (operators_of s) (request_from s words)

  accepted : Accepted request
  accepted = step-accepted request (plan_at-row words) (operators_of s) (room_of (lent_with blank unlined)) candidates step-good

  selects : bred.selection ≡ selected request
  selects = generation_selects (operators_of s) request (omega (arith, p.enough, p.ok.config.at_least4))

  -- its kept list meets demand 3
  listed : Demand3 request bred.selection.kept
  listed = subst (λ (x : Selected). Demand3 request x.kept) (sym selects) (demand3 request accepted p.enough)

  waits-listed : waits ≤ length bred.selection.kept
  waits-listed = omega (arith, listed.exactly, waiting_few s.config.edition size)

  -- so its plans may wait
  pub keeping : (kept : List ℕ) → kept ≡ over bred.selection.kept blank → Keeping s.config.edition size kept words room pool
  keeping kept e = record {
    listed = omega (arith, ap length e, length-append bred.selection.kept (drop (length bred.selection.kept) blank), waits-listed);
    within = λ i h. subst (λ (k : ℕ). k < plan_count words)
        (sym (ap (λ (l : List ℕ). get_or l i 0) e ∙ over-at bred.selection.kept blank i 0 (omega (arith, waits-listed))))
        (listed.in_pool (get_or bred.selection.kept i 0) (get_d_in bred.selection.kept i (omega (arith, waits-listed))));
    room = le_trans (mul-le-mul_right plan_words (le_trans (waiting_few s.config.edition size) p.ok.config.at_most)) p.room;
    pool = le_trans (mul-le-mul_right plan_words (le-add_right waits size)) (le_trans (le-add_right _ _) p.pool);
  }

  same : objectives request ≡ s.config.n_obj
  same = words-objectives s words p.ok.config p.ok.dimensions

  few-objectives : objectives request ≤ max_objectives
  few-objectives = (some-objectives request.marks accepted.directions).1

  pub few-remembered : s.progress.n_remembered < max_window
  few-remembered = omega (arith, p.remembered, window-few s.config.window p.ok.config.window)

  -- the lines tell what is left of the ideal
  pub told : (for_lines : ℕ) → for_lines ≡ max_pool → Told s words for_lines
  told for_lines e = record {
    sound = p.ok;
    lines = omega (arith, e, p.most, most-within s.config.edition);
    rows = λ q h. omega (arith, good_length (objectives request) (plan_at words q) (pool-plan request accepted.pool q h), same);
  }

  -- the answer's parts, and the session that is made of them
  module _ (cs pl : List ℕ) (r : Selection) (ideal : List Float) (kept lines cs' : List ℕ)
      (e : stepped r ideal kept lines cs' ≡ step_on s words (take s.config.n_obj s.ideal_point) blank unlined cs) where
    pub kept_is : kept ≡ over bred.selection.kept blank
    unfolding step_accepted
    kept_is = ap (λ (x : Stepped). x.kept) e

    lines_are : lines ≡ over bred.selection.lines unlined
    unfolding step_accepted
    lines_are = ap (λ (x : Stepped). x.lines) e

    ideal_are : ideal ≡ bred.selection.ideal
    unfolding step_accepted
    ideal_are = ap (λ (x : Stepped). x.ideal) e

    -- chosen is the ideal that the selection hands out, own and left what `left_of` makes of it, pl₁ the pool with those that wait and pl' that with what is remembered
    pub bred_is : (u : Session) (chosen own left : List Float) (pl₁ pl' : List ℕ) → length ideal ≡ s.config.n_obj → chosen ≡ ideal ++ drop s.config.n_obj s.ideal_point
        → left ≡ ideal_by s.config.window s chosen words lines → own ≡ own_by s.config.window s chosen words lines → pl₁ ≡ over (kept_words words kept waits) pl
        → pl' ≡ sets pl₁ (memory_at s.config) (last_of (most_words s.config) (memory_in s pl₁ ++ list_below (λ j. bits (get_or own j nan)) s.config.n_obj))
        → u ≡ bred_session s r.rng.s left → state u cs' [] [] pl' ≡ bred_on s words cs pl
    unfolding step_accepted memory_after
    bred_is u chosen own left pl₁ pl' h i a b k f l =
        let o = s.config.window in
        let front : pl₁ ≡ over (kept_words words bred.selection.kept waits) pl =
        k ∙ ap (λ (x : List ℕ). over x pl) (ap (λ (x : List ℕ). kept_words words x waits) kept_is ∙ kept_same words bred.selection.kept blank waits waits-listed) in
        let memory : memory_in s pl₁ ≡ memory_in s pl =
        ap (memory_in s) front ∙ memory_same s (kept_words words bred.selection.kept waits) pl (omega (arith, kept-length words bred.selection.kept waits)) in
        let words_left =
        ap₂ (λ (x : List ℕ) (y : List Float). last_of (most_words s.config) (x ++ list_below (λ j. bits (get_or y j nan)) s.config.n_obj)) memory b
        ∙ memory_is s words accepted same lines unlined bred.selection selects lines_are o chosen (memory_in s pl) few-objectives in
        ap₂ (λ (x : Session) (y : List ℕ). state x cs' [] [] y)
        (l ∙ ap (bred_session s r.rng.s) (a ∙ ideal_is s words accepted same lines unlined bred.selection selects lines_are o ideal chosen h ideal_are i))
        (f ∙ ap₂ (λ (x y : List ℕ). sets x (memory_at s.config) y) front words_left)
        ∙ ap (λ (x : Stepped). state (bred_session s x.answer.rng.s (over (ideal_after o request bred.selection) s.ideal_point)) x.offspring [] []
        (sets (over (kept_words words bred.selection.kept waits) pl) (memory_at s.config) (last_of (most_words s.config) (memory_in s pl ++ own_words request)))) e

-- ---- the plans bred from, gathered

-- room for as many plans as there may be children
pub blank-room : max_size * plan_words ≤ length (replicate {A = ℕ} (max_size * plan_words) 0)
blank-room = subst (λ (k : ℕ). max_size * plan_words ≤ k) (sym (length-replicate {A = ℕ} (max_size * plan_words) 0)) (le_refl (max_size * plan_words))

-- words put behind the first `at` of a slice stand over its front
put-behind : (pool b : List ℕ) (at : ℕ) → at + length b ≤ length pool → sets pool at b ≡ over (take at pool ++ b) pool
put-behind pool b at h =
    let n = length-take-le at pool (omega arith) in
    let whole : over (take at pool) pool ≡ pool = ap (λ (k : ℕ). take at pool ++ drop k pool) n ∙ take-append-drop at pool in
    ap (λ (l : List ℕ). sets l at b) (sym whole) ∙ over_run (take at pool) b pool at n h

module _ (s : Session) (history ps pool : List ℕ) (g : Gatherable s history ps pool) where
  abbrev many : ℕ
  many = s.progress.n_waiting

  abbrev wanted : ℕ
  wanted = s.config.population_size

  -- a state of it, with no other slice
  abbrev bare : State
  bare = state s [] ps [] pool

  too_short : long_enough bare ≡ false
  unfolding long_enough
  too_short = refl

  bare-ok : SessionOk bare
  bare-ok = short_ok s [] [] [] [] [] ps [] pool g.ok too_short

  abbrev children : List ℕ
  children = children_of (numbers_of pool many) history ps wanted

  abbrev front : List ℕ
  front = take (many * plan_words) pool

  pub few-waiting : many ≤ max_size
  few-waiting = omega (arith, waits-size bare bare-ok, g.ok.config.at_most)

  -- the plans that wait are whole
  pub front-whole : plan_count front * plan_words ≡ length front
  front-whole = omega (arith, front_length bare history g.waits)

  pub children-few : length children ≤ wanted * plan_words
  children-few = omega (arith, children-length (numbers_of pool many) history ps wanted, comers-few (numbers_of pool many) ps wanted)

  -- and so many words fit into a slice that holds the children at most
  pub gathered_room : (room' : List ℕ) (n k : ℕ) → max_size * plan_words ≤ k → length room' ≡ k → n ≡ length children → n ≤ length room'
  gathered_room room' n k h same e = omega (arith, children-few, mul-le-mul_right plan_words g.ok.config.at_most)

  module _ (room room' : List ℕ) (n : ℕ) (laid : room' ≡ over children room) (count : n ≡ length children) where
    pub gathered : take n room' ≡ children
    gathered = ap (take n) laid ∙ over-take children room n (sym count)

    abbrev joined : List ℕ
    joined = front ++ take n room'

    -- the session with the ideal that its selection starts from
    abbrev started : Session
    started = slid s pool

    joined_is : joined ≡ bred_from bare history
    unfolding bred_from
    joined_is = ap (λ (x : List ℕ). front ++ x) gathered

    -- ---- its refusal

    -- as code has it, of the session that it makes
    pub started-by : (c : Result Unit Refusal) (u : Session) → u ≡ started → refused_by c ≡ word_refusal u joined → refused_by c ≡ word_refusal started joined
    started-by c u e f = f ∙ ap (λ (x : Session). word_refusal x joined) e

    module _ (c : Result Unit Refusal) (e : refused_by c ≡ word_refusal started joined) where
      check_is : refused_by c ≡ breed_refusal bare history
      check_is = e ∙ ap (word_refusal started) joined_is

      -- 10 comes after 8 and 9
      pub short_is : (k : Result Unit Refusal) → c ≡ k → short_refusal bare history ≡ Some (unwrap_or (refused_by k) why.Room)
      short_is k f = then_last _ _ _ refl ∙ ap (λ (o : Option Refusal). Some (unwrap_or o why.Room)) (sym check_is ∙ ap (λ (x : Result Unit Refusal). refused_by x) f)

      pub refused_is : (k : Result Unit Refusal) (o : Option Refusal) (cs ns : List ℕ) → c ≡ k → refused_by k ≡ o → breed_refusal (state s cs ps ns pool) history ≡ o
      unfolding bred_from
      refused_is k o cs ns f h = sym check_is ∙ ap (λ (x : Result Unit Refusal). refused_by x) f ∙ h

    -- ---- the pool, with the children put behind those that wait

    module _ (fits : pool_room s.config ≤ length pool) where
      -- the plans bred from are within their room
      joined-fits : many * plan_words + n ≤ memory_at s.config
      joined-fits = omega (arith, waits-most bare bare-ok, children-few, count)

      pub behind-fits : many * plan_words + n ≤ length pool
      behind-fits = le_trans joined-fits (le_trans (le-add_right _ _) fits)

      pub behind-room : many * plan_words + length (take n room') ≤ length pool
      behind-room = omega (arith, behind-fits, ap length gathered)

      joined_length : length joined ≡ many * plan_words + n
      joined_length = omega (arith, length-append front (take n room'), front_length bare history g.waits, ap length gathered)

      module _ (pool' : List ℕ) (put : pool' ≡ sets pool (many * plan_words) (take n room')) where
        pool_is : pool' ≡ over joined pool
        pool_is = put ∙ put-behind pool (take n room') (many * plan_words) behind-room

        pool-front : take (many * plan_words + n) pool' ≡ bred_from bare history
        pool-front = ap (take (many * plan_words + n)) pool_is ∙ over-take joined pool (many * plan_words + n) joined_length ∙ joined_is

        pool-same : length pool' ≡ length pool
        pool-same = ap length pool_is ∙ over-length joined pool (omega (arith, behind-fits, joined_length))

        pub front_fits : many * plan_words + n ≤ length pool'
        front_fits = omega (arith, behind-fits, pool-same)

        -- no refusal applies: the generation may be bred
        pub poised : (c : Result Unit Refusal) (for_room candidates : ℕ) → refused_by c ≡ word_refusal started joined → refused_by c ≡ None → max_size * plan_words ≤ for_room → max_words ≤ candidates
            → Poised started (take (many * plan_words + n) pool') for_room (length pool') candidates
        poised c for_room candidates e f room_fits words-fit =
            subst (λ (x : List ℕ). Poised started x for_room (length pool') candidates) (sym pool-front)
            (record {
              ok = slid-sound s pool [] [] [] [] g.ok;
              remembered = g.ok.remembered;
              accepted = sym (e ∙ ap (word_refusal started) joined_is) ∙ f;
              enough = bred-enough bare bare-ok history g.waits;
              most = bred-few bare bare-ok history g.waits;
              room = room_fits;
              pool = subst (λ (k : ℕ). pool_room s.config ≤ k) (sym pool-same) fits;
              candidates = words-fit;
            })

        -- what is bred on it is the definition's
        memory_left : memory_after started pool' (request_of bare history) ≡ memory_after s pool (request_of bare history)
        unfolding memory_after
        memory_left =
            ap (λ (x : List ℕ). last_of (most_words s.config) (x ++ own_words (request_of bare history)))
            (ap (memory_in s) pool_is ∙ memory_same s joined pool (omega (arith, joined-fits, joined_length)))

        ideal-left : (sel : Selected) → over (ideal_after s.config.window (request_of bare history) sel) (start_ideal s pool) ≡ ideal_left bare history sel
        unfolding start_ideal
        ideal-left sel = left-same s.config.window s pool (request_of bare history) sel (request-objectives bare history bare-ok)

        pub breed_is : (cs ns cs' pool'' : List ℕ) (u : Session) → state u cs' [] [] pool'' ≡ bred_on started (take (many * plan_words + n) pool') cs pool'
            → state u cs' ps ns pool'' ≡ breed (state s cs ps ns pool) history
        unfolding breed bred_from
        breed_is cs ns cs' pool'' u e =
            let bred = generation (operators_of s) (request_of bare history) in
            let kept = kept_words (bred_from bare history) bred.selection.kept (waiting_of s.config.edition wanted) in
            ap (λ (x : State). state x.session x.candidates ps ns x.pool)
            (e ∙ ap (λ (x : List ℕ). bred_on started x cs pool') pool-front)
            ∙ ap (λ (x : List Float). state (bred_session s bred.state x) (over (words_of bred.offspring) cs) ps ns
            (sets (over kept pool') (memory_at s.config) (memory_after started pool' (request_of bare history)))) (ideal-left bred.selection)
            ∙ ap₂ (λ (x y : List ℕ). state (bred_session s bred.state (ideal_left bare history bred.selection)) (over (words_of bred.offspring) cs) ps ns
            (sets (over kept x) (memory_at s.config) y)) (pool_is ∙ ap (λ (x : List ℕ). over x pool) joined_is) memory_left

-- ---- by its refusal

pub breed-answer : (st after : State) (history : List ℕ) (o : Option Refusal) → breed_refusal st history ≡ o → bred_exit o after ≡ breed_by o st history → bred_exit o after ≡ breed_of st history
breed-answer st after history o e f = f ∙ ap (λ (x : Option Refusal). breed_by x st history) (sym e)
