-- Children moved to their steps are within their bounds, and the pass over their words leaves the words of the moved children.
use Prim.Native.Nat.{ℕ, ◌+◌, ◌*◌, ◌/◌, ◌%◌, ◌<◌}
use mathlib.Core.Path.{◌≡◌, sym, ap, subst, ◌∙◌}
use mathlib.Core.Bool.{Bool, true, false}
use mathlib.Core.List.{List, [], ◌++◌, map}
use native.Mathlib.Nat.{mod-lt, div-lt_iff_lt-mul, div-add-mod'}
use native.Mathlib.Omega.{arith}
use lib.ListN.{length, get_or, drop, length-map}
use Rattle.list_laws.proofs.Built.{map_at, list_below-length, list_below-at, list_below-whole, over-drop}
use Rattle.model.specs.declared.Distribution.{Distribution}
use Rattle.model.specs.declared.ParamValue.{ParamValue}
use Rattle.model.specs.Lists.{list_below, over}
use Rattle.model.specs.Setting.{no_value, setting_of, kind_of_dimension, to_word, of_word, words_of, move_setting, move_child, moved_by}
use Rattle.model.specs.Refusal.{bad_dimensions}
use Rattle.settings.proofs.Valid.{each}
use Rattle.variation_laws.proofs.Children.{Fit}
use Rattle.step_laws.proofs.Moved.{moved-in_bounds}
use Rattle.candidate_laws.proofs.Sound.{AllHeld, Sound, AllSound}
use Rattle.candidate_laws.proofs.Words.{words-length, words-at, read_back}

-- ---- within bounds

module _ (dims : ℕ → Distribution) (n : ℕ) (h : AllHeld dims n) (b : bad_dimensions dims n ≡ false) where
  child_sound : (c : List ParamValue) → Sound dims n c → Sound dims n (move_child dims n c)
  unfolding move_child
  child_sound c s =
      let f : ℕ → ParamValue = λ d. move_setting (dims d) (setting_of c d) in
      record {
        whole = list_below-length f n;
        each = λ d l. subst (Fit (dims d)) (sym (list_below-at f n no_value d l)) (moved-in_bounds (dims d) (setting_of c d) (h d l) (each dims n b d l) (s.each d l));
      }

  children-sound : (count : ℕ) (cs : List (List ParamValue)) → AllSound dims n count cs → AllSound dims n count (map (move_child dims n) cs)
  children-sound count cs a = record {
    whole = length-map cs (move_child dims n) ∙ a.whole;
    each = λ i l. let z = a.whole in subst (Sound dims n) (sym (map_at (move_child dims n) cs i [] [] (omega arith))) (child_sound (get_or cs i []) (a.each i l));
  }

  pub moved-sound : (moves : Bool) (count : ℕ) (cs : List (List ParamValue)) → AllSound dims n count cs → AllSound dims n count (moved_by moves dims n cs)
  moved-sound true count cs a = children-sound count cs a
  moved-sound false count cs a = a

  -- ---- as words

  module _ (count : ℕ) (cs : List (List ParamValue)) (a : AllSound dims n count cs) (old : List ℕ) where
    abbrev words : List ℕ
    words = over (words_of cs) old

    abbrev born : List (List ParamValue)
    born = map (move_child dims n) cs

    moved_all : AllSound dims n count born
    moved_all = children-sound count cs a

    -- what the pass makes of word j
    abbrev pass : ℕ → ℕ
    pass j = to_word (move_setting (dims (j % n)) (of_word (kind_of_dimension (dims (j % n))) (get_or words j 0)))

    module _ (j i d : ℕ) (is : i * n + d ≡ j) (l : i < count) (k : d < n) where
      -- setting d of child i
      place-moved : setting_of (get_or born i []) d ≡ move_setting (dims d) (setting_of (get_or cs i []) d)
      unfolding move_child
      place-moved =
          let z = a.whole in
          ap (λ (c : List ParamValue). setting_of c d) (map_at (move_child dims n) cs i [] [] (omega arith))
          ∙ list_below-at (λ (t : ℕ). move_setting (dims t) (setting_of (get_or cs i []) t)) n no_value d k

      word_moved : to_word (move_setting (dims d) (of_word (kind_of_dimension (dims d)) (get_or words j 0))) ≡ get_or (words_of born) j 0
      word_moved =
          ap (λ (t : ℕ). to_word (move_setting (dims d) (of_word (kind_of_dimension (dims d)) (get_or words t 0)))) (sym is)
          ∙ ap (λ (v : ParamValue). to_word (move_setting (dims d) v)) (read_back dims n count cs a (drop (length (words_of cs)) old) i d l k)
          ∙ ap to_word (sym place-moved) ∙ sym (words-at dims n count born moved_all i d l k) ∙ ap (λ (t : ℕ). get_or (words_of born) t 0) is

    pass-at : (j : ℕ) → 0 < n → j < count * n → pass j ≡ get_or (words_of born) j 0
    pass-at j some l = word_moved j (j / n) (j % n) (div-add-mod' j n) ((div-lt_iff_lt-mul some).1 l) (mod-lt j some)

    pub moved-words : ((j : ℕ) → j < count * n → 0 < n) → over (list_below pass (count * n)) words ≡ over (words_of born) old
    moved-words some =
        let e : list_below pass (count * n) ≡ words_of born =
        list_below-whole pass (count * n) 0 (words_of born) (words-length dims n count born moved_all) (λ j l. pass-at j (some j l) l) in
        let z : length (words_of cs) ≡ length (words_of born) = words-length dims n count cs a ∙ sym (words-length dims n count born moved_all) in
        ap (λ (l : List ℕ). over l words) e ∙ ap (λ (t : List ℕ). words_of born ++ t) (over-drop (words_of cs) old (length (words_of born)) z)
