-- What opening and a session call hand out in words.
use Prim.Native.Nat.{ℕ, ◌≤◌, ◌<◌}
use mathlib.Core.Path.{◌≡◌, refl, sym, ap, ap₂, subst, ◌∙◌}
use mathlib.Core.Bool.{Bool, true, false, cond, true≢false}
use mathlib.Core.List.{List, [], ◌∷◌}
use Rattle.list_laws.proofs.Options.{some-injective}
use Rattle.std.specs.Prelude.{Option, None, Some, Result, Ok, Err}
use native.Mathlib.Omega.{arith}
use borrow.Author.Tests.{lt-ltb, le-ltb}
use lib.Dec.{ltb}
use lib.Ieee.{Float}
use lib.ListN.{length}
use Rattle.model.specs.declared.Refusal.{Refusal}
use Rattle.model.specs.declared.Refusal.TheVariants as why
use Rattle.model.specs.declared.Distribution.{Distribution}
use Rattle.model.specs.declared.Edition.{Edition}
use Rattle.model.specs.declared.Opened.{Opened}
use Rattle.model.specs.declared.ParamValue.{ParamValue}
use Rattle.model.specs.declared.Sampled.{Sampled}
use Rattle.model.specs.declared.Session.{Session}
use Rattle.model.specs.Edition.{edition_of}
use Rattle.model.specs.Lists.{over}
use Rattle.model.specs.Session.{State, Answered, state, accepted, asked}
use Rattle.model.specs.Setting.{in_bounds, kind_of, to_word, of_word}
use Rattle.model.specs.Property.{SessionOk}
use Rattle.model.specs.Refusal.{check, first_of, bad_history, number_of, open_refusal, sample_refusal}
use Rattle.model.specs.Calls.{refused_by, open_of, Opens, refused_by, SampleExit, sample_by, sample_of, Bred, Samples}
use Rattle.session_words.specs.Coding.{dimension_width, session_width, session_words, session_of, dimension_at}
use Rattle.list_laws.proofs.Below.{cond_lt, cond_le}
use Rattle.list_laws.proofs.Checks.{passed_over, applies-first}
use Rattle.export_laws.specs.Coded.{code_number, or_refusal, written, opened_by, open_words_refusal, OpensWords, SampledWords, sampled_words, sampled_by, sampled_exit, sampled_after, lacks_words, word_checks, word_refusal, sample_words_refusal, sample_words, SamplesWords}
use Rattle.export_laws.proofs.Refusals.{above}

-- ---- opening

module _ (n : ℕ) (edition : Edition) (marks : List ℕ) (seed : ℕ) (s t u v : Option ℕ) (p c m : Float) (w z : Option ℕ) (r : Opened) (en : edition ≡ edition_of n) (es : s ≡ t) (eu : u ≡ v)
    (ew : w ≡ z) (opens : Opens edition marks seed s u p c m w r) (entry : List ℕ) where
  promise : Opens (edition_of n) marks seed t v p c m z r
  promise =
      subst (λ x. Opens (edition_of n) marks seed t v p c m x r) ew
      (subst (λ x. Opens (edition_of n) marks seed t x p c m w r) eu
      (subst (λ x. Opens (edition_of n) marks seed x u p c m w r) es (subst (λ x. Opens x marks seed s u p c m w r) en opens)))

  abbrev answer : Opened
  answer = open_of (edition_of n) marks seed t v p c m z

  coded : (o : Result Unit Refusal) → r.outcome ≡ o → opened_by o r.session entry ≡ opened_by answer.outcome answer.session entry
  coded o e = sym (ap (λ x. opened_by x r.session entry) e) ∙ ap (λ (x : Opened). opened_by x.outcome x.session entry) promise.whole

  abbrev refusal : Option Refusal
  refusal = open_refusal marks t v p c m z

  abbrev room : Option Refusal
  room = first_of (check why.Room (ltb (length entry) session_width) ∷ [])

  -- the refusal of an opening, as its outcome has it
  by_outcome : (o : Result Unit Refusal) → r.outcome ≡ o → refusal ≡ refused_by o
  by_outcome o e = sym promise.refused ∙ ap refused_by e

  -- and in words, where the slice too is looked at
  in_words : (o : Result Unit Refusal) → r.outcome ≡ o → or_refusal (refused_by o) room ≡ open_words_refusal marks t v p c m z (length entry)
  unfolding open_words_refusal
  in_words o e = sym (ap (λ x. or_refusal x room) (by_outcome o e))

  pub open_refused : (refused : Refusal) (k : ℕ) → r.outcome ≡ Err refused → k ≡ number_of refused → OpensWords n marks seed t v p c m z entry k entry
  open_refused refused k e h =
      let never : number_of refused ≡ 0 → ⊥ = above refused in
      record {
        whole = ap (λ x. written x entry) h ∙ coded (Err refused) e;
        refused = h ∙ ap code_number (in_words (Err refused) e);
        holds = λ z. absurd (never (sym h ∙ z));
        gives = λ z. absurd (never (sym h ∙ z));
      }

  pub open_short : (k : ℕ) → r.outcome ≡ (Ok tt) → length entry < session_width → k ≡ number_of why.Room → OpensWords n marks seed t v p c m z entry k entry
  open_short k e h told_room =
      record {
        whole = ap (λ x. written x entry) told_room ∙ sym (cond_lt (length entry) session_width _ _ h) ∙ coded (Ok tt) e;
        refused = told_room ∙ ap code_number (sym (applies-first (check why.Room (ltb (length entry) session_width)) [] (lt-ltb (length entry) session_width h)) ∙ in_words (Ok tt) e);
        holds = λ z. absurd (above why.Room (sym told_room ∙ z));
        gives = λ z. absurd (above why.Room (sym told_room ∙ z));
      }

  pub open_ready : (exit : List ℕ) → r.outcome ≡ (Ok tt) → session_width ≤ length entry → exit ≡ over (session_words r.session) entry → session_of exit ≡ r.session
      → OpensWords n marks seed t v p c m z entry 0 exit
  unfolding first_of
  open_ready exit e h x b =
      record {
        whole = ap (written 0) x
            ∙ sym (cond_le (length entry) session_width _ _ h) ∙ coded (Ok tt) e;
        refused = ap code_number (sym (passed_over (check why.Room (ltb (length entry) session_width)) [] (le-ltb (length entry) session_width h)) ∙ in_words (Ok tt) e);
        holds = λ z. b ∙ ap (λ (x : Opened). x.session) promise.whole;
        gives = λ z cs ps ns pool. subst (λ y. SessionOk (state y cs ps ns pool)) (sym b) (promise.gives cs ps ns pool);
      }

-- ---- a session call

-- the number told is that of the first refusal, of the words or of the call
number-after : (o q : Option Refusal) (a : Answered) (st : State) (k v : ℕ) (ws : List ℕ) → (sampled_after o (sample_by q st a) st k v ws).code ≡ code_number (or_refusal o q)
number-after None None a st k v ws = refl
number-after None (Some n) a st k v ws = refl
number-after (Some n) q a st k v ws = refl

-- the first of what is looked at before the call
first_short : (short lacks bad : Bool) → short ≡ true → first_of (word_checks short lacks bad) ≡ Some (cond bad why.Count why.Room)
unfolding first_of
first_short true lacks true e = refl
first_short true lacks false e = refl
first_short false lacks bad e = absurd (true≢false (sym e))

short-number : (bad : Bool) (n : ℕ) → n ≡ number_of (cond bad why.Count why.Room) → n ≡ 0 → ⊥
short-number true n e z = omega arith
short-number false n e z = omega arith

first_lacks : (short lacks bad : Bool) → short ≡ false → lacks ≡ true → first_of (word_checks short lacks bad) ≡ Some why.Bounds
unfolding first_of
first_lacks short lacks bad e h = rw (e, h)

first_passed : (short lacks bad : Bool) → short ≡ false → lacks ≡ false → first_of (word_checks short lacks bad) ≡ None
unfolding first_of
first_passed short lacks bad e h = rw (e, h)

module _ (ws ds : List ℕ) (plan : ℕ) (history cs ps ns pool : List ℕ) (k v : ℕ) where
  abbrev before : State
  before = state (session_of ws) cs ps ns pool

  abbrev called : SampleExit
  called = sample_of before (dimension_at ds 0) plan history

  -- six words are lacking, by the session that the words stand for
  abbrev lacking : Session → Bool
  lacking s = lacks_words s.phase s.discovery_trial_id plan (length ds)

  -- the number that is told is that of the refusal
  tells : (exit : SampledWords) → exit ≡ sample_words ws ds plan history cs ps ns pool k v → exit.code ≡ code_number (sample_words_refusal ws ds plan history cs ps ns pool)
  unfolding sample_words sample_words_refusal sample_of
  tells exit e =
      let words = word_refusal ws ds plan history in
      let call = sample_refusal before (dimension_at ds 0) plan history in
      ap (λ (x : SampledWords). x.code) e ∙ number-after words call (accepted before (dimension_at ds 0) plan history) before k v ws

  -- where the words are refused, all stays as it was
  turned_down : (n : Refusal) → word_refusal ws ds plan history ≡ Some n → sampled_words (number_of n) k v ws before ≡ sample_words ws ds plan history cs ps ns pool k v
  unfolding sample_words
  turned_down n e = sym (ap (λ o. sampled_after o called before k v ws) e)

  pub sample_short : (n : ℕ) → length ws < session_width → n ≡ number_of (cond (bad_history history) why.Count why.Room) → SamplesWords ws ds plan history cs ps ns pool k v (sampled_words n k v ws before)
  unfolding word_refusal
  sample_short n h e =
      let why_short = cond (bad_history history) why.Count why.Room in
      let whole = ap (λ x. sampled_words x k v ws before) e
      ∙ turned_down why_short (first_short (ltb (length ws) session_width) (lacking (session_of ws)) (bad_history history) (lt-ltb (length ws) session_width h)) in
      record {
        whole = whole;
        refused = tells _ whole;
        keeps = λ z. absurd (omega arith);
        demand3 = λ z. absurd (short-number (bad_history history) n e z);
        bounds = λ z. absurd (short-number (bad_history history) n e z);
      }

  pub sample_lacks : (s : Session) → session_width ≤ length ws → s ≡ session_of ws → SessionOk before → lacking s ≡ true
      → (n : ℕ) → n ≡ number_of why.Bounds → SamplesWords ws ds plan history cs ps ns pool k v (sampled_words n k v ws before)
  unfolding word_refusal
  sample_lacks s h es ok lacks n e =
      let short = sym (ap lacking es) ∙ lacks in
      let whole = ap (λ x. sampled_words x k v ws before) e ∙ turned_down why.Bounds (first_lacks (ltb (length ws) session_width) (lacking (session_of ws)) (bad_history history) (le-ltb (length ws) session_width h) short) in
      record {
        whole = whole;
        refused = tells _ whole;
        keeps = λ z. ok;
        demand3 = λ z. absurd (above why.Bounds (sym e ∙ z));
        bounds = λ z. absurd (above why.Bounds (sym e ∙ z));
      }

  module _ (h : session_width ≤ length ws) (s : Session) (d : Distribution) (es : s ≡ session_of ws) (ed : d ≡ dimension_at ds 0) (has : lacking s ≡ false) (r : Sampled) (xs ys zs ts : List ℕ)
      (samples : Samples (state s cs ps ns pool) d plan history (record { answer = r.outcome; after = state r.session xs ys zs ts })) where
    abbrev left : State
    left = state r.session xs ys zs ts

    -- the dimension that it asks a setting of
    abbrev asks : Distribution
    asks = asked before (dimension_at ds 0) plan history

    promise' : Samples before (dimension_at ds 0) plan history (record { answer = r.outcome; after = left })
    promise' = subst (λ x. Samples before x plan history (record { answer = r.outcome; after = left })) ed (subst (λ x. Samples (state x cs ps ns pool) d plan history (record { answer = r.outcome; after = left })) es samples)

    passed : word_refusal ws ds plan history ≡ None
    unfolding word_refusal
    passed = first_passed (ltb (length ws) session_width) (lacking (session_of ws)) (bad_history history) (le-ltb (length ws) session_width h) (sym (ap lacking es) ∙ has)

    is : (o : Result ParamValue Refusal) → r.outcome ≡ o → sampled_by o left k v ws ≡ sample_words ws ds plan history cs ps ns pool k v
    unfolding sample_words
    is o e =
        sym (ap (λ x. sampled_by x left k v ws) e) ∙ ap (λ (x : SampleExit). sampled_exit x k v ws) promise'.whole
        ∙ sym (ap (λ x. sampled_after x called before k v ws) passed)

    same : (n : Refusal) → r.outcome ≡ Err n → left ≡ before
    unfolding sample_of
    same n e =
        ap (λ (x : SampleExit). x.after) promise'.whole
        ∙ ap (λ o. (sample_by o before (accepted before (dimension_at ds 0) plan history)).after) (sym promise'.refused ∙ ap refused_by e)

    -- the promise, of words that stand for the session left
    kept_promise : (c kind value : ℕ) (exit : List ℕ) → session_of exit ≡ r.session
        → (c ≡ 0 → sample_refusal before (dimension_at ds 0) plan history ≡ None) → (c ≡ 0 → in_bounds asks (of_word kind value) ≡ true)
        → sampled_words c kind value exit (state (session_of exit) xs ys zs ts) ≡ sample_words ws ds plan history cs ps ns pool k v
        → SamplesWords ws ds plan history cs ps ns pool k v (sampled_words c kind value exit (state (session_of exit) xs ys zs ts))
    kept_promise c kind value exit b passes within e =
        record {
          whole = e;
          refused = tells _ e;
          keeps = λ z. subst (λ y. SessionOk (state y xs ys zs ts)) (sym b) promise'.keeps;
          demand3 = λ z bred. subst (λ y. Bred before plan history (state y xs ys zs ts)) (sym b) (promise'.demand3 (passes z) bred);
          bounds = within;
        }

    pub sample_refused : (n : Refusal) (c : ℕ) → r.outcome ≡ Err n → c ≡ number_of n
        → SamplesWords ws ds plan history cs ps ns pool k v (sampled_words c k v ws (state (session_of ws) xs ys zs ts))
    sample_refused n c e h =
        let b : session_of ws ≡ r.session = sym (ap (λ (x : State). x.session) (same n e)) in
        let never : c ≡ 0 → ⊥ = λ z. above n (sym h ∙ z) in
        kept_promise c k v ws b (λ z. absurd (never z)) (λ z. absurd (never z)) (ap₂ (λ x y. sampled_words x k v ws (state y xs ys zs ts)) h b ∙ is (Err n) e)

    pub sample_set : (x : ParamValue) (kind value : ℕ) (exit : List ℕ) → r.outcome ≡ Ok x → kind ≡ kind_of x → value ≡ to_word x → of_word (kind_of x) value ≡ x
        → exit ≡ over (session_words r.session) ws → session_of exit ≡ r.session
        → SamplesWords ws ds plan history cs ps ns pool k v (sampled_words 0 kind value exit (state (session_of exit) xs ys zs ts))
    sample_set x kind value exit e hk hv back hx b =
        kept_promise 0 kind value exit b (λ z. sym promise'.refused ∙ ap refused_by e) (λ z. ap (in_bounds asks) (ap (λ j. of_word j value) hk ∙ back) ∙ promise'.bounds x e)
        (ap₂ (λ p q. sampled_words 0 p q exit (state (session_of exit) xs ys zs ts)) hk hv
        ∙ ap₂ (λ p q. sampled_words 0 (kind_of x) (to_word x) p (state q xs ys zs ts)) hx b ∙ is (Ok x) e)
