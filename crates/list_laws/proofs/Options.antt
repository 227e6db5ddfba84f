-- Laws of an option: there is none, or there is one and which.
use Rattle.std.specs.Prelude.{◌≡◌, Option, None, Some}

pub none-ne-some : {A : Type 0} (a : A) → None ≡ Some a → ⊥
none-ne-some a e = cc

pub some-ne-none : {A : Type 0} (a : A) → Some a ≡ None → ⊥
some-ne-none a e = cc

pub some-injective : {A : Type 0} (a b : A) → Some a ≡ Some b → a ≡ b
some-injective a b e = cc
