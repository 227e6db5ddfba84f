-- The settings of a plan that may be bred from, with drawn ones where it lacks some, are a candidate within its bounds.
use Prim.Native.Nat.{ℕ, zero, suc, ◌<◌}
use mathlib.Core.Path.{◌≡◌, sym, ap, ◌∙◌}
use mathlib.Core.Bool.{Bool, true, false, ◌||◌}
use mathlib.Core.List.{List, []}
use borrow.Author.Tests.{ltb-true, lt-leb}
use lib.Dec.{eqb, leb, ltb}
use lib.Ieee.{binary64}
use lib.Ieee.Bits.{of_bits-fits}
use lib.ListN.{length, get_or}
use Rattle.list_laws.proofs.Bools.{by_bool, and_right}
use Rattle.list_laws.proofs.Tests.{all_below-each}
use Rattle.list_laws.proofs.Draws.{places-drawn}
use Rattle.model.specs.declared.Distribution.{Distribution}
use Rattle.model.specs.Plan.{Plan, Setting, max_settings}
use Rattle.model.specs.Setting.{no_value, kind_of_dimension, of_word, valid_dimension, in_bounds, no_setting, sort_by_param, extract_one, extract, parents_of}
use Rattle.model.specs.Refusal.{bad_dimensions, named_once, fits_dimension, breedable, fits_at}
use Rattle.settings.proofs.Valid.{each}
use Rattle.settings.proofs.InBounds.{Held}
use Rattle.variation_laws.proofs.Children.{HeldValue, Fit}
use Rattle.candidate_laws.specs.Bounds.{Within}
use Rattle.candidate_laws.proofs.Sound.{AllHeld, Sound, sound-within, AllSound}
use Rattle.candidate_laws.proofs.Sampled.{sampled_fit}

-- every word is that of a double
word_held : (k w : ℕ) → HeldValue (of_word k w)
word_held zero w = of_bits-fits binary64 w
word_held (suc zero) w = tt
word_held (suc (suc k)) w = tt

breedable-fits : (dims : ℕ → Distribution) (n : ℕ) (p : Plan) → breedable dims n p ≡ true → (i : ℕ) → i < n → fits_at dims (sort_by_param p.settings) i ≡ true
unfolding breedable
breedable-fits dims n p h = all_below-each _ n (and_right (named_once p.settings) _ (and_right (leb p.setting_count max_settings) _ h))

there : (d : Distribution) (x : Setting) → fits_dimension d x ≡ true → in_bounds d (of_word x.kind x.value) ≡ true
unfolding fits_dimension
there d x h = and_right (eqb x.kind (kind_of_dimension d)) _ h

one_fit : (dims : ℕ → Distribution) (sorted : List Setting) (i s : ℕ) → Held (dims i) → valid_dimension (dims i) ≡ true → fits_at dims sorted i ≡ true → Fit (dims i) (extract_one (dims i) sorted i s).value
unfolding extract_one fits_at
one_fit dims sorted i s h v f = by_bool (ltb i (length sorted))
    (λ e. rw e (
    let x = get_or sorted i no_setting in
    let l = ltb-true i (length sorted) e in
    (there (dims i) x (sym (ap (λ (b : Bool). b || fits_dimension (dims i) x) (lt-leb (length sorted) i l)) ∙ f), word_held x.kind x.value)))
    (λ e. rw e (sampled_fit (dims i) s h v))

module _ (dims : ℕ → Distribution) (n : ℕ) (h : AllHeld dims n) (b : bad_dimensions dims n ≡ false) where
  pub extract-sound : (p : Plan) (s : ℕ) → breedable dims n p ≡ true → Sound dims n (extract dims n (sort_by_param p.settings) s).value
  extract-sound p s f =
      let sorted = sort_by_param p.settings in
      places-drawn _ (λ d v. Fit (dims d) v) no_value n s (λ i l t u. one_fit dims sorted i t (h i u) (each dims n b i u) (breedable-fits dims n p f i u))

  pub extract-within : (p : Plan) (s : ℕ) → breedable dims n p ≡ true → Within dims n (extract dims n (sort_by_param p.settings) s).value
  extract-within p s f = sound-within dims n _ (extract-sound p s f)

  -- the kept plans' settings
  pub parents_of-sound : (plans : ℕ → Plan) (kept : List ℕ) (s : ℕ) → ((i : ℕ) → i < length kept → breedable dims n (plans (get_or kept i 0)) ≡ true)
      → AllSound dims n (length kept) (parents_of dims n plans kept s).value
  parents_of-sound plans kept s f =
      places-drawn _ (λ i c. Sound dims n c) [] (length kept) s (λ i l t u. extract-sound (plans (get_or kept i 0)) t (f i u))
