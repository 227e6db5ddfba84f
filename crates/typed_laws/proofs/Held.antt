-- A value that code is given or holds is one that its type has: `Is R x vs`, which a proof finds at `c.good`. Of dimensions this says that their numbers are held.
use Rattle.std.specs.Prelude.{Option, None, Some, Float, ℤ}
use Prim.Native.Nat.{ℕ, zero, suc, ◌<◌}
use mathlib.Core.Path.{◌≡◌, sym, ◌∙◌}
use mathlib.Core.List.{List, [], ◌∷◌, map}
use native.Mathlib.Nat.{not-suc-le-zero}
use native.Mathlib.Omega.{arith}
use lib.ListN.{length, get_or}
use mir.Val.{Val}
use base.Fml.{Fml}
use denote.Shadow.{shadow}
use denote.Laws.{Is}
use denote.Array.{each}
use denote.Struct.Declared as struct
use denote.Enum.Declared as enum
use denote.Builtin.{f64, i64}
use Rattle.std.specs.contracts.option.Option as option
use Rattle.list_laws.proofs.Bools.{true_T}
use Rattle.model.specs.contracts.Distribution as distribution
use Rattle.model.specs.contracts.DimensionInfo as info
use Rattle.model.specs.contracts.Operators as operators
use Rattle.model.specs.contracts.Session as session
use Rattle.model.specs.declared.Distribution.{Distribution}
use Rattle.model.specs.declared.Distribution.TheVariants as dist
use Rattle.model.specs.declared.DimensionInfo.{DimensionInfo}
use Rattle.model.specs.declared.Operators.{Operators}
use Rattle.model.specs.declared.Session.{Session}
use Rattle.model.specs.Session.{dimension_of}
use Rattle.model.specs.Setting.{max_dims, no_dimension, dimensions_of}
use Rattle.settings.proofs.InBounds.{Held, HeldStepI64, HeldStepF64}

-- ---- a dimension

step_f64-held : (o : Option Float) (vs : List Val) → Is (enum.row (option.the_type f64)) o vs → HeldStepF64 o
step_f64-held None vs p = tt
step_f64-held (Some x) vs p = true_T _ p.1.1.1.1.0.1

step_i64-held : (o : Option ℤ) (vs : List Val) → Is (enum.row (option.the_type i64)) o vs → HeldStepI64 o
step_i64-held None vs p = tt
step_i64-held (Some n) vs p = record { sfits = p.1.1.1.1.0.1 }

pub dimension_held : (d : Distribution) (vs : List Val) → Is (enum.row distribution.the_type) d vs → Held d
dimension_held (dist.Float d) vs p =
    let q = p.1.1.1.1.0.1.1 in
    (true_T _ q.0.1, true_T _ q.1.0.1, step_f64-held d.step _ q.1.1.1.0)
dimension_held (dist.Int d) vs p =
    let q = p.1.1.1.1.0.1.1 in
    (record { sfits = q.0.1 }, record { sfits = q.1.0.1 }, step_i64-held d.step _ q.1.1.1.0)
dimension_held (dist.Categorical d) vs p = tt

info_held : (x : DimensionInfo) (vs : List Val) → Is (struct.row info.the_type) x vs → Held x.distribution
info_held x vs p = dimension_held x.distribution _ p.1.1.0

-- ---- an array of them

-- what holds of each element by its type holds of the element at each place
module _ {A : Type 0} (f : A → List Val → Fml) (P : A → Type 0) (one : (x : A) (vs : List Val) → shadow (f x vs) → P x) (z : A) where
  pub each_at : (xs : List A) (us : List Val) → shadow (each A f xs us) → (i : ℕ) → i < length xs → P (get_or xs i z)
  each_at [] us p i h = absurd (not-suc-le-zero h)
  each_at (x ∷ xs) [] p i h = absurd p
  each_at (x ∷ xs) (u ∷ us) p zero h = one x (u ∷ []) p.0
  each_at (x ∷ xs) (u ∷ us) p (suc i) h = each_at xs us p.1 i (omega arith)

-- elements of a field that is an array, as its type has them
each_map : {A D : Type 0} (f : D → List Val → Fml) (into : A → D) (xs : List A) (us : List Val) → shadow (each D f (map into xs) us)
    → shadow (each A (λ x vs. f (into x) vs) xs us)
each_map f into [] [] p = p
each_map f into [] (u ∷ us) p = p
each_map f into (x ∷ xs) [] p = p
each_map f into (x ∷ xs) (u ∷ us) p = (p.0, each_map f into xs us p.1)

pub each_field : {A D : Type 0} (f : D → List Val → Fml) (into : A → D) (P : A → Type 0) → ((x : A) (vs : List Val) → shadow (f (into x) vs) → P x) → (z : A)
    → (xs : List A) (us : List Val) → shadow (each D f (map into xs) us) → (i : ℕ) → i < length xs → P (get_or xs i z)
each_field f into P one z xs us p = each_at (λ x vs. f (into x) vs) P one z xs us (each_map f into xs us p)

-- ---- those of `Operators`

module _ (o : Operators) (vs : List Val) (p : Is (struct.row operators.the_type) o vs) where
  operators-dimensions : length o.dimensions ≡ max_dims
  operators-dimensions = p.1.1.0.1.0.1

  pub operators-held : (d : ℕ) → d < max_dims → Held (dimensions_of o.dimensions d)
  operators-held d h =
      let e = operators-dimensions in
      let q = p.1.1.0 in
      each_at (λ x us. (struct.row info.the_type).own_val x us) (λ (x : DimensionInfo). Held x.distribution) info_held no_dimension o.dimensions q.0 q.1.1 d (omega arith)

-- ---- a session's

module _ (s : Session) (vs : List Val) (p : Is (struct.row session.the_type) s vs) where
  pub session-dimensions : length s.dimensions ≡ max_dims
  session-dimensions = p.1.1.1.1.1.1.0.1.0.1

  pub session-held : (d : ℕ) → d < max_dims → Held (dimension_of s d)
  session-held d h =
      let e = session-dimensions in
      let q = p.1.1.1.1.1.1.0 in
      each_at (λ x us. (struct.row info.the_type).own_val x us) (λ (x : DimensionInfo). Held x.distribution) info_held no_dimension s.dimensions q.0 q.1.1 d (omega arith)

  pub session-ideal : length s.ideal_point ≡ 8
  session-ideal = p.1.1.1.1.1.1.1.0.1.0.1

  pub session-directions : length s.config.directions ≡ 8
  session-directions = p.1.1.0.1.1.1.1.0.1.0.1
