-- A candidate that is filled place by place.
use mathlib.Core.Path.{◌≡◌, ap, ap₂, ◌∙◌}
use mathlib.Core.List.{List, [], ◌∷◌, ◌++◌}
use Prim.Native.Nat.{ℕ, ◌+◌, ◌<◌}
use native.Mathlib.Nat.{ne_of_lt}
use lib.Dec.{leb}
use lib.ListN.{length, get_or, set}
use lib.Seq.{get_or-set_same, get_or-set_other}
use Rattle.list_laws.proofs.Bools.{by_bool}
use Rattle.list_laws.proofs.Built.{list_below_none, list_below-more, list_below-same}
use Rattle.list_laws.proofs.Draws.{draw_all_none, draw_all-more}
use Rattle.model.specs.Lists.{list_below}
use Rattle.model.specs.declared.ParamValue.{ParamValue}
use Rattle.model.specs.Draw.{Drawn, drawn, draw_usize, draw_all}
use Rattle.model.specs.Setting.{tournament}
use Rattle.rng_util.proofs.Draws.{draw_usize-below}
use Rattle.settings.specs.declared.Slot.{Slot}
use Rattle.settings.specs.Candidate.{no_slot, slot_of, settings_of}

-- ---- laws of filling

-- one place more of an array, each entry read by f
pub filled_more : {A B : Type 0} (f : A → B) (z : A) (a : List A) (i : ℕ) (x : A) → i < length a → list_below (λ t. f (get_or (set a i x) t z)) (i + 1) ≡ list_below (λ t. f (get_or a t z)) i ++ (f x ∷ [])
filled_more f z a i x h =
    list_below-more (λ t. f (get_or (set a i x) t z)) i
    ∙ ap₂ (λ l b. l ++ (b ∷ [])) (list_below-same _ _ i (λ t l. ap f (get_or-set_other a i t x z (ne_of_lt l)))) (ap f (get_or-set_same a i x z h))

-- ---- a candidate

pub settings_none : (params : List Slot) → settings_of params 0 ≡ []
unfolding settings_of
settings_none params = list_below_none (slot_of params)

pub settings-more : (params : List Slot) (i : ℕ) (v : ParamValue) → i < length params → settings_of (set params i (record { value = v })) (i + 1) ≡ settings_of params i ++ (v ∷ [])
unfolding settings_of
settings-more params i v h = filled_more (λ (s : Slot). s.value) no_slot params i (record { value = v }) h

-- one that is drawn place by place: nothing is drawn yet, and one setting more
module _ (next : ℕ → List ParamValue → ℕ → Drawn ParamValue) (params : List Slot) where
  pub candidate_none : (s : ℕ) → drawn (settings_of params 0) s ≡ draw_all next 0 s
  candidate_none s = ap (λ l. drawn l s) (settings_none params) ∙ draw_all_none next s

  pub candidate_more : (i s : ℕ) {t u : ℕ} {v : ParamValue} → i < length params → drawn (settings_of params i) t ≡ draw_all next i s → drawn v u ≡ next i (settings_of params i) t
      → drawn (settings_of (set params i (record { value = v })) (i + 1)) u ≡ draw_all next (i + 1) s
  candidate_more i s {u = u} {v = v} h e f = ap (λ l. drawn l u) (settings-more params i v h) ∙ draw_all-more next i s e f

-- ---- parents: the winner of a tournament is one of the n
pub winner-below : (ranks : ℕ → ℕ) (n s : ℕ) → 0 < n → (tournament ranks n s).value < n
unfolding tournament
winner-below ranks n s h =
    let a = draw_usize n s in
    let b = draw_usize n a.state in
    by_bool (leb (ranks a.value) (ranks b.value)) (λ e. rw e (draw_usize-below n s h)) (λ e. rw e (draw_usize-below n a.state h))
