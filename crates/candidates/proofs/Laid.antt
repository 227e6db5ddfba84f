-- Candidates laid into a slice as words, one after the other.
use mathlib.Core.Path.{◌≡◌, refl, sym, ap, subst, ◌∙◌}
use mathlib.Core.List.{List, [], ◌∷◌, ◌++◌, map, append-nil, flatten, map-append}
use Prim.Native.Nat.{ℕ, ◌+◌, ◌*◌, ◌≤◌}
use native.Mathlib.Nat.{add-mul, one-mul, zero-mul}
use lib.ListN.{length}
use lib.Seq.{sets}
use Rattle.list_laws.proofs.Built.{list_below-length, map_below}
use Rattle.list_laws.proofs.Draws.{draw_all_none, draw_all-more}
use Rattle.list_laws.proofs.Rows.{flatten_append}
use Rattle.list_laws.proofs.Written.{Written, written_on}
use Rattle.model.specs.declared.ParamValue.{ParamValue}
use Rattle.model.specs.Lists.{list_below}
use Rattle.model.specs.Draw.{Drawn, drawn, draw_all}
use Rattle.model.specs.Setting.{to_word, words_of}
use Rattle.settings.specs.declared.Slot.{Slot}
use Rattle.settings.specs.Candidate.{slot_of, settings_of}

-- ---- a candidate's words, by its places

pub words-below : (params : List Slot) (n : ℕ) → map to_word (settings_of params n) ≡ list_below (λ i. to_word (slot_of params i)) n
unfolding settings_of
words-below params n = map_below to_word (slot_of params) n

pub words-length : (params : List Slot) (n : ℕ) → length (map to_word (settings_of params n)) ≡ n
words-length params n = ap length (words-below params n) ∙ list_below-length (λ i. to_word (slot_of params i)) n

-- ---- candidates laid at a slice's front, some after the others, with the generator after them

words_append : (a b : List (List ParamValue)) → words_of (a ++ b) ≡ words_of a ++ words_of b
unfolding words_of
words_append a b = ap flatten (map-append (map to_word) a b) ∙ flatten_append (map (map to_word) a) (map (map to_word) b)

pub words-one : (a : List ParamValue) → words_of (a ∷ []) ≡ map to_word a
unfolding words_of flatten
words-one a = append-nil (map to_word a)

abbrev pub LaidOut : List ℕ → ℕ → Drawn (List (List ParamValue)) → List ℕ → ℕ → Type 0
LaidOut old k d out t = Written words_of old k d out t

pub laid_none : (old : List ℕ) (n s : ℕ) → LaidOut old (0 * n) (drawn [] s) old s
unfolding words_of flatten
laid_none old n s = record { same = refl; count = sym (zero-mul n); written = refl; state = refl }

pub laid_more : (old : List ℕ) (k : ℕ) (d : Drawn (List (List ParamValue))) (out : List ℕ) (t : ℕ) → LaidOut old k d out t
    → (cs : List (List ParamValue)) (w : ℕ) (out' : List ℕ) (u : ℕ) → length (words_of cs) ≡ w → k + w ≤ length old → out' ≡ sets out k (words_of cs)
    → LaidOut old (k + w) (drawn (d.value ++ cs) u) out' u
laid_more old k d out t h cs w out' u z room e = written_on words_of old k d out t h (words_of cs) w (drawn (d.value ++ cs) u) out' (words_append d.value cs) z room e

-- candidates drawn one after the other: none yet, and one more
module _ (next : ℕ → List (List ParamValue) → ℕ → Drawn (List ParamValue)) (s : ℕ) (old : List ℕ) (n : ℕ) where
  pub laid-first : LaidOut old (0 * n) (draw_all next 0 s) old s
  laid-first = subst (λ d. LaidOut old (0 * n) d old s) (draw_all_none next s) (laid_none old n s)

  pub laid_next : (i : ℕ) (out : List ℕ) (t : ℕ) → LaidOut old (i * n) (draw_all next i s) out t → (v : List ParamValue) (u : ℕ) (out' : List ℕ)
      → drawn v u ≡ next i (draw_all next i s).value t → length (map to_word v) ≡ n → i * n + n ≤ length old → out' ≡ sets out (i * n) (map to_word v)
      → LaidOut old ((i + 1) * n) (draw_all next (i + 1) s) out' u
  laid_next i out t h v u out' e z room put =
      let so_far = draw_all next i s in
      let k : i * n + n ≡ (i + 1) * n = sym (add-mul i 1 n ∙ ap (λ m. i * n + m) (one-mul n)) in
      let m = laid_more old (i * n) so_far out t h (v ∷ []) n out' u (ap length (words-one v) ∙ z) room (put ∙ ap (λ w. sets out (i * n) w) (sym (words-one v))) in
      subst (λ x. LaidOut old ((i + 1) * n) x out' u) (draw_all-more next i s refl (e ∙ ap (next i so_far.value) h.state))
      (subst (λ j. LaidOut old j (drawn (so_far.value ++ (v ∷ [])) u) out' u) k m)
