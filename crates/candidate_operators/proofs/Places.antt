-- Candidates crossed place by place, as the definition has it.
use Rattle.std.proofs.Common.{◌≡◌, ℕ, ◌+◌, ◌<◌, List, [], ◌∷◌, ◌++◌, sym, ◌∙◌, ap₂}
use lib.Ieee.{Float}
use Rattle.list_laws.proofs.Built.{list_below-at}
use Rattle.list_laws.proofs.Draws.{in_turn_none, in_turn-more}
use Rattle.model.specs.declared.Distribution.{Distribution}
use Rattle.model.specs.declared.ParamValue.{ParamValue}
use Rattle.model.specs.Draw.{Drawn, drawn}
use Rattle.model.specs.Setting.{pair, children, with_pair, no_value, setting_of, cross_one, cross_all, mutate_maybe}
use Rattle.settings.specs.declared.Slot.{Slot}
use Rattle.settings.specs.Candidate.{slot_of, settings_of}
use Rattle.settings.proofs.Candidates.{settings_none}

pub setting-at : (params : List Slot) (n i : ℕ) → i < n → setting_of (settings_of params n) i ≡ slot_of params i
unfolding settings_of
setting-at params n i h = list_below-at (slot_of params) n no_value i h

pub cross_all_none : (dims : ℕ → Distribution) (p q : List ParamValue) (k s : ℕ) (first second : List Slot) → drawn (children (settings_of first 0) (settings_of second 0)) s ≡ cross_all dims 0 p q k s
cross_all_none dims p q k s first second =
    ap₂ (λ (a b : List ParamValue). drawn (children a b) s) (settings_none first) (settings_none second) ∙ sym (in_turn_none with_pair (children [] []) _ s)

pub cross_all-more : (dims : ℕ → Distribution) (n : ℕ) (p q : List ParamValue) (k s : ℕ) (a b : List ParamValue) (t : ℕ) (x y v w : ParamValue) (u : ℕ)
    → drawn (children a b) t ≡ cross_all dims n p q k s → setting_of p n ≡ v → setting_of q n ≡ w → drawn (pair x y) u ≡ cross_one (dims n) v w k t
    → drawn (children (a ++ (x ∷ [])) (b ++ (y ∷ []))) u ≡ cross_all dims (n + 1) p q k s
cross_all-more dims n p q k s a b t x y v w u e ev ew f =
    in_turn-more with_pair (children [] []) _ n s e (f ∙ sym (ap₂ (λ (c d : ParamValue). cross_one (dims n) c d k t) ev ew))

-- a setting mutated, by the same probability and setting under other names
pub mutated_as : (d : Distribution) (k t : ℕ) {p q : Float} {v w : ParamValue} {r : Drawn ParamValue} → r ≡ mutate_maybe p d v k t → p ≡ q → w ≡ v → r ≡ mutate_maybe q d w k t
mutated_as d k t e f g = e ∙ ap₂ (λ (z : Float) (y : ParamValue). mutate_maybe z d y k t) f (sym g)
