-- A session is read back from its words, and a dimension from its own.
use Rattle.std.specs.Prelude.{Option, None, Some}
use Rattle.std.specs.Bool.{then_some}
use Rattle.std.specs.Option.{unwrap_or}
use lib.IntN.{ℤ}
use Prim.Native.Nat.{ℕ, ◌+◌, ◌*◌, ◌%◌, ◌<◌}
use mathlib.Core.Path.{◌≡◌, refl, sym, ap, ap₂, ◌∙◌}
use mathlib.Core.Bool.{Bool, true, false}
use mathlib.Core.List.{List, ◌++◌}
use native.Mathlib.Nat.{mod-eq_of_lt}
use native.Mathlib.Omega.{arith}
use lib.Dec.{T}
use lib.Ieee.{Float, nan, binary64, fits}
use lib.Ieee.Bits.{of_bits-to_bits}
use lib.ListN.{length, get_or, drop}
use lib.Seq.{get_or-append-add}
use Rattle.list_laws.proofs.Built.{list_below-whole}
use Rattle.real_laws.proofs.Ints.{int_of_word-of}
use Rattle.model.specs.declared.Config.{Config}
use Rattle.model.specs.declared.Edition.{Edition}
use Rattle.model.specs.declared.Edition.TheVariants.{First, Second}
use Rattle.model.specs.Edition.{edition_number, edition_of}
use Rattle.model.specs.declared.Distribution.{Distribution}
use Rattle.model.specs.declared.Distribution.TheVariants as dist
use Rattle.model.specs.declared.Phase.{Phase}
use Rattle.model.specs.declared.Phase.TheVariants.{Discovery, Active}
use Rattle.model.specs.declared.Session.{Session}
use Rattle.model.specs.Lists.{one, list_below, join_below, over}
use Rattle.model.specs.Real.{real, bits}
use Rattle.model.specs.Session.{dimension_of}
use Rattle.model.specs.Plan.{max_objectives}
use Rattle.model.specs.Setting.{max_dims, no_dimension, int_of_word, word_of_int}
use Rattle.settings.proofs.InBounds.{Held, HeldStepF64}
use Rattle.session_words.specs.Coding.{marked, mark_of, word_or_none, dimension_width, dimension_words, dimension_at, info_at, dimensions_at, head_width, phase_word, phase_of, config_words, state_words, ideal_words, session_words, marks_at, ideal_at, config_at, session_of}
use Rattle.session_words.proofs.Parts.{float_is, int_is, dimension_same, config-same, session-same}
use Rattle.session_encoding.proofs.Laid.{dimension_length}
use Rattle.list_laws.proofs.Rows.{join_below-front}

-- ---- what is asked of a value that is stored: its reals are doubles, its directions bytes, and its arrays of their lengths

pub record ConfigStored (c : Config) : Type 0 where
  pub marks : length c.directions ≡ max_objectives
  pub bytes : (i : ℕ) → i < max_objectives → get_or c.directions i 0 < 256
  pub probability : T (fits binary64 c.crossover_prob)
  pub crossover_eta_of : T (fits binary64 c.crossover_eta)
  pub mutation_eta_of : T (fits binary64 c.mutation_eta)

pub record Stored (s : Session) : Type 0 where
  pub config : ConfigStored s.config
  pub dimensions : length s.dimensions ≡ max_dims
  pub held : (d : ℕ) → d < max_dims → Held (dimension_of s d)
  pub ideal : length s.ideal_point ≡ max_objectives
  pub reals : (i : ℕ) → i < max_objectives → T (fits binary64 (get_or s.ideal_point i nan))

-- ---- a dimension

marked-back : (b : Bool) → b ≡ marked (one b)
marked-back true = refl
marked-back false = refl

step_f64-back : (o : Option Float) → HeldStepF64 o → o ≡ then_some (marked (mark_of o)) (real (word_or_none bits o))
step_f64-back None h = refl
step_f64-back (Some x) h = ap Some (sym (of_bits-to_bits binary64 x h))

step_i64-back : (o : Option ℤ) → o ≡ then_some (marked (mark_of o)) (int_of_word (word_or_none word_of_int o))
step_i64-back None = refl
step_i64-back (Some n) = ap Some (sym (int_of_word-of n))

dimension_back : (x : Distribution) → Held x → x ≡ dimension_at (dimension_words x) 0
dimension_back (dist.Float d) h =
    float_is 0 _ _ (one d.log_scale) (mark_of d.step) (word_or_none bits d.step) d.low d.high d.log_scale d.step refl (sym (of_bits-to_bits binary64 d.low h.0)) (sym (of_bits-to_bits binary64 d.high h.1))
    (marked-back d.log_scale) (step_f64-back d.step h.2)
dimension_back (dist.Int d) h =
    int_is 1 _ _ (one d.log_scale) (mark_of d.step) (word_or_none word_of_int d.step) d.low d.high d.log_scale d.step refl (sym (int_of_word-of d.low)) (sym (int_of_word-of d.high)) (marked-back d.log_scale)
    (step_i64-back d.step)
dimension_back (dist.Categorical d) h = refl

-- words that agree in a dimension's places stand for one dimension
same-six : (v w : List ℕ) (at : ℕ) → ((j : ℕ) → j < dimension_width → get_or v (at + j) 0 ≡ get_or w j 0) → dimension_at v at ≡ dimension_at w 0
same-six v w at h =
    let n : at + 0 ≡ at = omega arith in
    let z : get_or v at 0 ≡ get_or w 0 0 = ap (λ k. get_or v k 0) (sym n) ∙ h 0 (omega arith) in
    sym (dimension_same v at _ _ _ _ _ _ (sym z) (sym (h 1 (omega arith))) (sym (h 2 (omega arith))) (sym (h 3 (omega arith))) (sym (h 4 (omega arith))) (sym (h 5 (omega arith))))

-- ---- the parts of a session

phase-back : (p : Phase) → phase_of (phase_word p) ≡ p
phase-back Discovery = refl
phase-back Active = refl

edition-back : (e : Edition) → edition_of (edition_number e) ≡ e
edition-back First = refl
edition-back Second = refl

number-back : (o : Option ℕ) → then_some (marked (mark_of o)) (unwrap_or o 0) ≡ o
number-back None = refl
number-back (Some n) = refl

-- ---- a session

module _ (s : Session) (old : List ℕ) (ok : Stored s) where
  -- the slice that holds the session's words, and the words from the dimensions on
  abbrev words : List ℕ
  words = over (session_words s) old

  abbrev block : ℕ → List ℕ
  block d = dimension_words (dimension_of s d)

  abbrev head : List ℕ
  head = config_words s.config ++ (state_words s ++ ideal_words s.ideal_point)

  abbrev rest : List ℕ
  rest = drop (length (session_words s)) old

  words_are : words ≡ head ++ (join_below block max_dims ++ rest)
  unfolding session_words config_words state_words ideal_words
  words_are = refl

  head-length : length head ≡ head_width
  unfolding config_words state_words ideal_words
  head-length = refl

  word_of : (d j : ℕ) → d < max_dims → j < dimension_width → get_or words (head_width + d * dimension_width + j) 0 ≡ get_or (block d) j 0
  word_of d j h i =
      let e : head_width + d * dimension_width + j ≡ length head + (d * dimension_width + j) = omega (arith, head-length) in
      ap₂ (λ l k. get_or l k 0) words_are e ∙ get_or-append-add head (join_below block max_dims ++ rest) (d * dimension_width + j) 0
      ∙ join_below-front block dimension_width max_dims (λ k u. dimension_length (dimension_of s k)) rest d j 0 h i

  info_back : (d : ℕ) → d < max_dims → info_at words head_width d ≡ get_or s.dimensions d no_dimension
  info_back d h =
      ap (λ x. record { distribution = x })
      (same-six words (block d) (head_width + d * dimension_width) (λ j i. word_of d j h i) ∙ sym (dimension_back (dimension_of s d) (ok.held d h)))

  dimensions-back : dimensions_at words head_width ≡ s.dimensions
  unfolding dimensions_at
  dimensions-back = list_below-whole (info_at words head_width) max_dims no_dimension s.dimensions ok.dimensions info_back

  marks-back : marks_at words ≡ s.config.directions
  unfolding marks_at session_words config_words list_below
  marks-back = list_below-whole (λ i. get_or s.config.directions i 0 % 256) max_objectives 0 s.config.directions ok.config.marks (λ i h. mod-eq_of_lt (ok.config.bytes i h))

  ideal-back : ideal_at words ≡ s.ideal_point
  unfolding ideal_at session_words config_words state_words ideal_words list_below
  ideal-back =
      list_below-whole (λ i. real (bits (get_or s.ideal_point i nan))) max_objectives nan s.ideal_point ok.ideal (λ i h. of_bits-to_bits binary64 (get_or s.ideal_point i nan) (ok.reals i h))

  config-back : config_at words ≡ s.config
  unfolding session_words config_words
  config-back =
      config-same s.config _ _ (marks_at words) _ _ _ _ _ _ (edition-back s.config.edition) refl marks-back refl refl (of_bits-to_bits binary64 s.config.crossover_prob ok.config.probability)
      (of_bits-to_bits binary64 s.config.crossover_eta ok.config.crossover_eta_of) (of_bits-to_bits binary64 s.config.mutation_eta ok.config.mutation_eta_of)
      (number-back s.config.window)

  pub session-back : session_of words ≡ s
  unfolding session_of session_words config_words state_words ideal_words
  session-back =
      session-same s (config_at words) _ _ _ (dimensions_at words head_width) (ideal_at words) _ config-back (phase-back s.phase) (number-back s.discovery_trial_id) refl
      dimensions-back ideal-back refl
