-- A plan's settings, and a candidate made of them place by place.
use mathlib.Core.Path.{◌≡◌, refl}
use mathlib.Core.Bool.{true, false, ◌&&◌}
use mathlib.Core.List.{List}
use Prim.Native.Nat.{ℕ, ◌+◌, ◌*◌, ◌<◌, ◌≤◌, min}
use native.Mathlib.Nat.{min-eq_left}
use borrow.Author.Tests.{lt-ltb, le-ltb, le-leb, lt-leb}
use lib.ListN.{get_or}
use Rattle.list_laws.proofs.Built.{list_below-length, list_below-at}
use Rattle.model.specs.declared.Distribution.{Distribution}
use Rattle.model.specs.Lists.{all_below, list_below}
use Rattle.model.specs.Draw.{drawn}
use Rattle.model.specs.Plan.{plan_of, plan_at, plan_words, max_settings}
use Rattle.model.specs.Setting.{of_word, sample_random, no_setting, sort_by_param, extract_one}
use Rattle.model.specs.Refusal.{named_once, fits_dimension, breedable, fits_at}
use Rattle.extraction.specs.declared.Entry.{Entry}
use Rattle.extraction.specs.Entries.{setting_at, entry_at, entries_of}

pub plan-settings : (words : List ℕ) (i : ℕ) → (plan_at words i).settings ≡ list_below (setting_at words (i * plan_words)) (min (get_or words (i * plan_words + 27) 0) max_settings)
unfolding plan_of
plan-settings words i = refl

pub fits-past : (dims : ℕ → Distribution) (a : List Entry) (count i : ℕ) → count ≤ i → fits_at dims (entries_of a count) i ≡ true
unfolding fits_at entries_of
fits-past dims a count i h = rw (list_below-length (entry_at a) count, le-leb count i h)

pub fits-here : (dims : ℕ → Distribution) (a : List Entry) (count i : ℕ) → i < count → fits_at dims (entries_of a count) i ≡ fits_dimension (dims i) (entry_at a i)
unfolding fits_at entries_of
fits-here dims a count i h = rw (list_below-length (entry_at a) count, lt-leb count i h, list_below-at (entry_at a) count no_setting i h)

pub one_there : (d : Distribution) (a : List Entry) (count i s : ℕ) → i < count → extract_one d (entries_of a count) i s ≡ drawn (of_word (entry_at a i).kind (entry_at a i).value) s
unfolding extract_one entries_of
one_there d a count i s h = rw (list_below-length (entry_at a) count, lt-ltb i count h, list_below-at (entry_at a) count no_setting i h)

pub one_missing : (d : Distribution) (a : List Entry) (count i s : ℕ) → count ≤ i → extract_one d (entries_of a count) i s ≡ sample_random d s
unfolding extract_one entries_of
one_missing d a count i s h = rw (list_below-length (entry_at a) count, le-ltb i count h)

-- ---- refusal 9

pub breedable-many : (dims : ℕ → Distribution) (n : ℕ) (words : List ℕ) (i : ℕ) → max_settings < get_or words (i * plan_words + 27) 0 → breedable dims n (plan_at words i) ≡ false
unfolding breedable plan_of
breedable-many dims n words i h = rw (lt-leb (get_or words (i * plan_words + 27) 0) max_settings h)

pub breedable_is : (dims : ℕ → Distribution) (n : ℕ) (words : List ℕ) (i : ℕ) → get_or words (i * plan_words + 27) 0 ≤ max_settings
    → breedable dims n (plan_at words i) ≡ (named_once (list_below (setting_at words (i * plan_words)) (get_or words (i * plan_words + 27) 0))
    && all_below (fits_at dims (sort_by_param (list_below (setting_at words (i * plan_words)) (get_or words (i * plan_words + 27) 0)))) n)
unfolding breedable plan_of fits_at
breedable_is dims n words i h = rw (le-leb (get_or words (i * plan_words + 27) 0) max_settings h, min-eq_left h)
