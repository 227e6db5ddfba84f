-- The number that a call answers tells its refusal: 0 is the number of none.
use Rattle.std.specs.Prelude.{ℕ, ◌≡◌, Option, None, Some}
use mathlib.Core.Path.{refl, sym, ap, ◌∙◌}
use Rattle.model.specs.declared.Refusal.{Refusal}
use Rattle.model.specs.declared.Refusal.TheVariants as why
use Rattle.model.specs.Refusal.{number_of}
use Rattle.list_laws.proofs.Options.{none-ne-some}
use Rattle.export_laws.specs.Coded.{code_number, refusal_of}

-- a refusal's number tells it
pub told : (r : Option Refusal) → refusal_of (code_number r) ≡ r
told None = refl
told (Some why.Form) = refl
told (Some why.Directions) = refl
told (Some why.Size) = refl
told (Some why.Divisions) = refl
told (Some why.Operators) = refl
told (Some why.Bounds) = refl
told (Some why.Count) = refl
told (Some why.Values) = refl
told (Some why.Parents) = refl
told (Some why.Room) = refl
told (Some why.Generation) = refl
told (Some why.Steps) = refl
told (Some why.Load) = refl
told (Some why.Window) = refl
told (Some why.Bands) = refl
told (Some why.Litres) = refl
told (Some why.SecondForm) = refl
told (Some why.NotHeld) = refl

-- no refusal has the number 0
pub above : (r : Refusal) → number_of r ≡ 0 → ⊥
above r e = none-ne-some r (sym (ap refusal_of e) ∙ told (Some r))

-- ---- what a promise's field `refused` says, of the number c that is answered and the refusal r: it is 0 exactly where nothing is refused, else the refusal's

-- it is read back as the refusal
pub reads_back : (c : ℕ) (r : Option Refusal) → c ≡ code_number r → refusal_of c ≡ r
reads_back c r h = ap refusal_of h ∙ told r

pub none_at_zero : (c : ℕ) (r : Option Refusal) → c ≡ code_number r → c ≡ 0 → r ≡ None
none_at_zero c r h z = sym (reads_back c r h) ∙ ap refusal_of z

pub zero_at_none : (c : ℕ) (r : Option Refusal) → c ≡ code_number r → r ≡ None → c ≡ 0
zero_at_none c r h e = cc

pub number_at_refusal : (c : ℕ) (r : Option Refusal) (refused : Refusal) → c ≡ code_number r → r ≡ Some refused → c ≡ number_of refused
number_at_refusal c r refused h e = cc

pub refusal_at_number : (c : ℕ) (r : Option Refusal) (refused : Refusal) → c ≡ code_number r → c ≡ number_of refused → r ≡ Some refused
refusal_at_number c r refused h n = sym (reads_back c r h) ∙ ap refusal_of n ∙ told (Some refused)
