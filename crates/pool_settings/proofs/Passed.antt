-- A setting, by how far its reader gets.
use Prim.Native.Nat.{ℕ}
use mathlib.Core.Path.{◌≡◌}
use mathlib.Core.Bool.{true, false}
use mathlib.Core.List.{List}
use Rattle.std.specs.Prelude.{None, Some}
use lib.ListN.{drop}
use Rattle.model.specs.PoolFile.{pure, number, setting, good_setting}
use Rattle.pool_number.specs.declared.Read.{Read}
use Rattle.pool_number.specs.Reading.{number_at}
use Rattle.pool_number.proofs.Numbers.{told}
use Rattle.pool_settings.specs.Passing.{PassedIs, setting_of}

-- a number v stands at a place, up to another
pub record Number (file : List ℕ) (at v next : ℕ) : Type 0 where
  pub is : number (drop at file) ≡ pure v (drop next file)

pub number-told : (file : List ℕ) (at : ℕ) (r : Read) → Some r ≡ number_at file at → Number file at r.number r.next
number-told file at r e = record { is = told file at (Some r) e }

module _ (file : List ℕ) (at : ℕ) where
  pub no_param : number (drop at file) ≡ None → setting (drop at file) ≡ None
  unfolding setting
  no_param n = rw n

  module _ {param p : ℕ} (a : Number file at param p) where
    pub no_kind : number (drop p file) ≡ None → setting (drop at file) ≡ None
    unfolding setting
    no_kind n = rw (a.is, n)

    module _ {kind q : ℕ} (b : Number file p kind q) where
      pub no_value : number (drop q file) ≡ None → setting (drop at file) ≡ None
      unfolding setting
      no_value n = rw (a.is, b.is, n)

      module _ {value next : ℕ} (c : Number file q value next) where
        pub bad-setting : good_setting (setting_of param kind value) ≡ false → setting (drop at file) ≡ None
        unfolding setting
        bad-setting n = rw (a.is, b.is, c.is, n)

        pub good-setting : good_setting (setting_of param kind value) ≡ true → PassedIs setting file at (Some next)
        unfolding setting
        good-setting g = record { value = setting_of param kind value; reads = rw (a.is, b.is, c.is, g); stored = tt }
