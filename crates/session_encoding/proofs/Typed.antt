-- A session that code holds can be stored, and a setting: their types promise what is asked of their reals, directions and arrays.
use Prim.Native.Nat.{◌<◌}
use mathlib.Core.Path.{◌≡◌, refl, ap}
use mathlib.Core.List.{List}
use native.Mathlib.Omega.{arith}
use lib.Dec.{T}
use lib.Ieee.{nan, binary64, fits}
use lib.Ieee.Bits.{of_bits-to_bits}
use mir.Val.{Val}
use denote.Laws.{Is}
use denote.Builtin.{u8, f64}
use denote.Struct.Declared as struct
use denote.Enum.Declared as enum
use Rattle.list_laws.proofs.Bools.{true_T}
use Rattle.real_laws.proofs.Ints.{int_of_word-of}
use Rattle.model.specs.contracts.ParamValue as param
use Rattle.model.specs.contracts.Session as session
use Rattle.model.specs.declared.ParamValue.{ParamValue}
use Rattle.model.specs.declared.ParamValue.TheVariants as value
use Rattle.model.specs.declared.Session.{Session}
use Rattle.model.specs.Setting.{kind_of, to_word, of_word}
use Rattle.typed_laws.proofs.Held.{each_at, session-dimensions, session-held, session-ideal, session-directions}
use Rattle.session_encoding.proofs.Stored.{ConfigStored, Stored}

module _ (s : Session) (vs : List Val) (p : Is (struct.row session.the_type) s vs) where
  config-stored : ConfigStored s.config
  config-stored =
      let q = p.1.1.0.1.1.1 in
      let e = session-directions s vs p in
      record {
        marks = session-directions s vs p;
        bytes = λ i h. each_at (λ x us. u8.own_val x us) (λ x. x < 256) (λ x us r. omega (arith, r.1)) 0 s.config.directions q.1.0.0 q.1.0.1.1 i (omega arith);
        probability = true_T _ q.1.1.1.1.0.1;
        crossover_eta_of = true_T _ q.1.1.1.1.1.0.1;
        mutation_eta_of = true_T _ q.1.1.1.1.1.1.0.1;
      }

  pub stored : Stored s
  stored =
      let zs = p.1.1.1.1.1.1.1.0 in
      let m = session-ideal s vs p in
      record {
        config = config-stored;
        dimensions = session-dimensions s vs p;
        held = session-held s vs p;
        ideal = session-ideal s vs p;
        reals = λ i h. each_at (λ x us. f64.own_val x us) (λ x. T (fits binary64 x)) (λ x us r. true_T _ r.1) nan s.ideal_point zs.0 zs.1.1 i (omega arith);
      }

-- a setting is read back from its word
pub setting-back : (v : ParamValue) (vs : List Val) → Is (enum.row param.the_type) v vs → of_word (kind_of v) (to_word v) ≡ v
setting-back (value.Float x) vs p = ap value.Float (of_bits-to_bits binary64 x (true_T _ p.1.1.1.1.0.1))
setting-back (value.Int n) vs p = ap value.Int (int_of_word-of n)
setting-back (value.Categorical c) vs p = refl
