-- What a generation leaves of the ideal (document 02, M-109): the plans that its lines tell are those that shape the scale, so the least over them is the
-- definition's, and so is what is remembered.
use Rattle.std.proofs.Common.{◌≡◌, ℕ, ◌+◌, ◌-◌, ◌*◌, ◌<◌, ◌≤◌, Bool, true, false, cond, not, ◌||◌, List, [], ◌++◌, length, get_or, take, drop, replicate, sym, refl, ap, ◌∙◌, true≢false, zero-mul, arith, length-take, length-take-le, get_or-take, ltb-false, eq-eqb, ne_eqb, Option, None, Some}
use lib.Ieee.{Float, nan}
use lib.ListN.{length-replicate, get_or-replicate}
use lib.Seq.{drop-length}
use Rattle.list_laws.proofs.Bools.{by_bool, or_right}
use Rattle.list_laws.proofs.Built.{list_below-length, list_below-at, list_below-same, over-at, over_below, over-drop}
use Rattle.list_laws.proofs.Checks.{good-ideal-length}
use Rattle.list_laws.proofs.Kept.{keep_below-same}
use Rattle.list_laws.proofs.Members.{get_d_in}
use Rattle.list_laws.proofs.Runs.{over-past}
use Rattle.list_laws.proofs.Tests.{any_below-at, any_below_nowhere}
use Rattle.model.specs.declared.Session.{Session}
use Rattle.model.specs.Lists.{any_below, list_below, over}
use Rattle.model.specs.Real.{bits, infinity}
use Rattle.model.specs.Plan.{plan_at, plan_count, max_objectives}
use Rattle.model.specs.Association.{Request, objectives, line_count, line_of, value_of, feasible_only, shapes, shapers, least_from, ideal_of}
use Rattle.model.specs.Kept.{Selected, is_split, by_split, selected, selected_split, selected_whole, without_line, line_mark}
use Rattle.model.specs.Refusal.{max_size, max_lines, bad_divisions, outside_divisions}
use Rattle.model.specs.Property.{SessionOk}
use Rattle.model.specs.Window.{max_window, least_remembered, most_remembered, own_part, own_words, last_of, ideal_after}
use Rattle.model.specs.Session.{state, memory_at, memory_in, start_by}
use Rattle.niching_laws.proofs.Association.{line_of-inside}
use Rattle.demand3_laws.specs.Facts.{Accepted}
use Rattle.association_laws.proofs.Shapers.{in_shapers}
use Rattle.demand3_laws.proofs.Accepted.{accepted-lines}
use Rattle.demand3_laws.proofs.Shapers.{only_split, all-shape, some-shape}
use Rattle.session_window.specs.Sources.{has_line, counted, sources_of, least_in}
use Rattle.session_laws.specs.Refused.{request_from}
use Rattle.session_laws.proofs.Window.{window-few, objectives-few}
use Rattle.session_breeding.specs.Breeding.{Told, marks_of, least_on, ideal_by, own_by}

-- ---- the plans that lines tell

module _ (r : Request) (accepted : Accepted r) where
  -- a line's number is no mark for none
  few-lines : line_count r ≤ max_lines
  unfolding bad_divisions
  few-lines = ltb-false max_lines (line_count r) (or_right (outside_divisions r.divisions) _ accepted.divisions)

  module _ (rest : List ℕ) where
    abbrev lines : List ℕ
    lines = over (selected r).lines rest

    -- where a front is split a plan has a line exactly if it shapes the scale
    has-line : is_split r ≡ true → (p : ℕ) → p < r.count → has_line lines p ≡ shapes r p
    unfolding selected selected_split
    has-line e p h =
        let at : get_or lines p 0 ≡ line_mark r p =
        ap (λ (b : Bool). get_or (over (by_split b r).lines rest) p 0) e
        ∙ over-at (list_below (line_mark r) r.count) rest p 0 (omega (arith, h, list_below-length (line_mark r) r.count))
        ∙ list_below-at (line_mark r) r.count 0 p h in
        by_bool (shapes r p)
        (λ g. let there : get_or lines p 0 ≡ line_of r p = at ∙ ap (λ (b : Bool). cond b (line_of r p) without_line) g in
        ap not (ne_eqb (get_or lines p 0) without_line (λ n. omega (arith, there, n, line_of-inside r p (accepted-lines r accepted), few-lines))) ∙ sym g)
        (λ g. ap not (eq-eqb (get_or lines p 0) without_line (at ∙ ap (λ (b : Bool). cond b (line_of r p) without_line) g)) ∙ sym g)

    -- and some plan does
    some-line : is_split r ≡ true → 0 < r.count → any_below (has_line lines) r.count ≡ true
    some-line e h =
        let p = get_or (shapers r) 0 0 in
        let k = in_shapers r p (get_d_in (shapers r) 0 (some-shape r h)) in
        any_below-at (has_line lines) r.count p k.0 (has-line e p k.0 ∙ k.1)

    -- else none has, and every plan shapes it
    no_line : is_split r ≡ false → any_below (has_line lines) r.count ≡ false
    unfolding selected selected_whole
    no_line e = any_below_nowhere (has_line lines) r.count (λ k g. ap not (eq-eqb (get_or lines k 0) without_line
        (ap (λ (b : Bool). get_or (over (by_split b r).lines rest) k 0) e
        ∙ over-at (replicate r.count without_line) rest k 0 (omega (arith, g, length-replicate r.count without_line)) ∙ get_or-replicate r.count k without_line 0 g)))

    unsplit-shape : is_split r ≡ false → (p : ℕ) → shapes r p ≡ true
    unsplit-shape e p = by_bool (feasible_only r) (λ f. absurd (true≢false (sym (only_split r f) ∙ e))) (λ f. all-shape r f p)

    -- so those that count are those that shape the scale
    counts-shape : (p : ℕ) → p < r.count → counted (not (any_below (has_line lines) r.count)) lines p ≡ shapes r p
    counts-shape p h = by_bool (is_split r)
        (λ e. ap (λ (b : Bool). not b || has_line lines p) (some-line e (omega (arith, h))) ∙ has-line e p h)
        (λ e. ap (λ (b : Bool). not b || has_line lines p) (no_line e) ∙ sym (unsplit-shape e p))

    -- THE LAW
    pub sources_are : sources_of lines r.count ≡ shapers r
    unfolding shapers
    sources_are = keep_below-same _ _ r.count counts-shape

-- ---- the least over them

module _ (s : Session) (words : List ℕ) (accepted : Accepted (request_from s words)) (same : objectives (request_from s words) ≡ s.config.n_obj) (lines rest : List ℕ)
    (sel : Selected) (selects : sel ≡ selected (request_from s words)) (told : lines ≡ over sel.lines rest) where
  abbrev r : Request
  r = request_from s words

  abbrev m : ℕ
  m = s.config.n_obj

  sources : sources_of lines (plan_count words) ≡ shapers r
  sources = ap (λ (l : List ℕ). sources_of l (plan_count words)) (told ∙ ap (λ (x : Selected). over x.lines rest) selects) ∙ sources_are r accepted rest

  least_is : (b : Float) (j : ℕ) → least_in (marks_of s) words lines b j ≡ least_from b (λ p. value_of r p j) (shapers r)
  least_is b j = ap (least_from b (λ p. value_of r p j)) sources

  -- the session's ideal, by its window
  pub ideal_is : (o : Option ℕ) (ideal chosen : List Float) → length ideal ≡ m → ideal ≡ sel.ideal → chosen ≡ ideal ++ drop m s.ideal_point
      → ideal_by o s chosen words lines ≡ over (ideal_after o r sel) s.ideal_point
  unfolding ideal_of
  ideal_is None ideal chosen long e f = f ∙ ap (λ (k : ℕ). ideal ++ drop k s.ideal_point) (sym long) ∙ ap (λ (x : List Float). over x s.ideal_point) e
  ideal_is (Some w) ideal chosen long e f =
      ap (λ (x : List Float). over x s.ideal_point)
      (list_below-same _ _ (objectives r) (λ j h. least_is (get_or s.ideal_point j nan) j
      ∙ ap (λ (b : Float). least_from b (λ p. value_of r p j) (shapers r)) (sym (get_or-take m s.ideal_point j nan (omega (arith, h, same))))))

  -- the words of its own part
  abbrev blank : List Float
  blank = replicate max_objectives infinity

  own_is : objectives r ≤ max_objectives → list_below (λ j. bits (get_or (least_on s words lines blank) j nan)) m ≡ own_words r
  unfolding own_words own_part
  own_is few =
      ap (list_below (λ j. bits (get_or (least_on s words lines blank) j nan))) (sym same)
      ∙ list_below-same _ _ (objectives r) (λ j h. ap bits
      (over_below (λ j. least_in (marks_of s) words lines (get_or blank j nan) j) (objectives r) (least_on s words lines blank) blank j nan refl h
      ∙ least_is (get_or blank j nan) j
      ∙ ap (λ (b : Float). least_from b (λ p. value_of r p j) (shapers r)) (get_or-replicate max_objectives j infinity nan (omega (arith, h, few)))))

  last_none : (l : List ℕ) → last_of (0 * m) l ≡ []
  last_none l = let e : length l - 0 * m ≡ length l = omega (arith, zero-mul m) in ap (λ (k : ℕ). drop k l) e ∙ drop-length l

  -- what is remembered, by the window: without one nothing, whatever stands for the own part
  pub memory_is : (o : Option ℕ) (chosen : List Float) (memory : List ℕ) → objectives r ≤ max_objectives
      → last_of (most_remembered o * m) (memory ++ list_below (λ j. bits (get_or (own_by o s chosen words lines) j nan)) m) ≡ last_of (most_remembered o * m) (memory ++ own_words r)
  memory_is None chosen memory few =
      last_none (memory ++ list_below (λ j. bits (get_or chosen j nan)) m) ∙ sym (last_none (memory ++ own_words r))
  memory_is (Some w) chosen memory few = ap (λ (x : List ℕ). last_of (most_remembered (Some w) * m) (memory ++ x)) (own_is few)

-- ---- what stands behind the plans' room stays

pub memory_same : (s : Session) (front pool : List ℕ) → length front ≤ memory_at s.config → memory_in s (over front pool) ≡ memory_in s pool
memory_same s front pool h = list_below-same _ _ _ (λ i l. over-past front pool (memory_at s.config + i) 0 (omega (arith, h)))

-- ---- an ideal laid over the one that a selection starts from

pub left-same : (o : Option ℕ) (s : Session) (pool : List ℕ) (r : Request) (sel : Selected) → objectives r ≡ s.config.n_obj
    → over (ideal_after o r sel) (start_by o s pool) ≡ over (ideal_after o r sel) s.ideal_point
left-same None s pool r sel e = refl
left-same (Some w) s pool r sel e =
    let start = list_below (least_remembered pool (memory_at s.config) s.config.n_obj s.progress.n_remembered) s.config.n_obj in
    ap (λ (x : List Float). list_below (ideal_of r) (objectives r) ++ x)
    (over-drop start s.ideal_point (length (list_below (ideal_of r) (objectives r)))
    (list_below-length (least_remembered pool (memory_at s.config) s.config.n_obj s.progress.n_remembered) s.config.n_obj ∙ sym e ∙ sym (list_below-length (ideal_of r) (objectives r))))

-- ---- what a generation leaves of the ideal, by its window

pub put_ready : (s : Session) (words : List ℕ) (n : ℕ) → Told s words n → (ideal : List Float) → s.config.n_obj ≤ length ideal
    → (plan_count words ≤ n) × (length (marks_of s) ≤ max_objectives) × (length (marks_of s) ≤ length ideal) × ((p : ℕ) → p < plan_count words → length (marks_of s) ≤ (plan_at words p).row_length)
put_ready s words n t ideal h =
    let e = length-take-le s.config.n_obj s.config.directions t.sound.config.objectives in (
      t.lines,
      omega (arith, e, objectives-few s.config t.sound.config),
      omega (arith, e, h),
      λ p l. omega (arith, e, t.rows p l),
    )

module _ (s : Session) (words lines : List ℕ) (chosen : List Float) where
  abbrev ideal-of : Option ℕ → List Float
  ideal-of o = ideal_by o s chosen words lines

  abbrev own_of : Option ℕ → List Float
  own_of o = own_by o s chosen words lines

  pub left_with : (w : ℕ) (ideal own : List Float) → s.config.window ≡ Some w → ideal ≡ least_on s words lines s.ideal_point
      → own ≡ least_on s words lines (replicate max_objectives infinity) → (ideal ≡ ideal-of s.config.window) × (own ≡ own_of s.config.window)
  left_with w ideal own e f g = (f ∙ sym (ap ideal-of e), g ∙ sym (ap own_of e))

pub left_without : (s : Session) (chosen : List Float) (words lines : List ℕ) → s.config.window ≡ None
    → (chosen ≡ ideal_by s.config.window s chosen words lines) × (chosen ≡ own_by s.config.window s chosen words lines)
left_without s chosen words lines e = (
  sym (ap (λ (o : Option ℕ). ideal_by o s chosen words lines) e),
  sym (ap (λ (o : Option ℕ). own_by o s chosen words lines) e),
)

-- ---- a session that may be started from

pub slid_ready : (s : Session) → SessionOk (state s [] [] [] [])
    → (s.config.population_size ≤ max_size) × (s.config.n_obj ≤ max_objectives) × (s.progress.n_remembered ≤ max_window) × (s.config.n_obj ≤ length s.ideal_point)
slid_ready s ok = (
  ok.config.at_most,
  objectives-few s.config ok.config,
  omega (arith, ok.remembered, window-few s.config.window ok.config.window),
  omega (arith, good-ideal-length s.config.n_obj (take s.config.n_obj s.ideal_point) ok.ideal, length-take s.config.n_obj s.ideal_point),
)
