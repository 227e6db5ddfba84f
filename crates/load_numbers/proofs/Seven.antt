-- Seven numbers, and nothing behind them.
use Prim.Native.Nat.{ℕ, suc, ◌≤◌, ◌<◌}
use mathlib.Core.Path.{◌≡◌, refl, ap, sym, ◌∙◌}
use mathlib.Core.List.{List, ◌∷◌}
use Rattle.std.specs.Prelude.{Option, None, Some}
use native.Mathlib.Omega.{arith}
use lib.ListN.{length, drop, drop_of_length-le}
use lib.Seq.{sets, drop-cons, take_all}
use Rattle.model.specs.PoolFile.{Parsed, Reader, pure, onward, number, many, wholly, if_none_left}
use Rattle.model.specs.Load.{load, parse_load}
use Rattle.list_laws.proofs.Bools.{by_option}
use Rattle.list_laws.proofs.Built.{over-front, over-all}
use Rattle.pool_plans.specs.Blocks.{Words}
use Rattle.pool_plans.proofs.Storing.{reads-count, stored_plain}
use Rattle.load_numbers.specs.Asking.{load_in}

-- a value read before so many others, where each goes on as they do together
before-many : {A B : Type 0} (r : Reader A) (n : ℕ) (g : List A → B) (f : A → Reader B) (bytes : List ℕ)
    → ((a : A) (rest : List ℕ) → f a rest ≡ onward (many n r rest) (λ l. pure (g (a ∷ l)))) → onward (r bytes) f ≡ onward (many (suc n) r bytes) (λ l. pure (g l))
unfolding many
before-many r n g f bytes h = by_option (r bytes)
    (λ e. rw e)
    (λ p e. rw e (h p.value p.rest ∙ by_option (many n r p.rest) (λ z. rw z) (λ q z. rw z)))

load_seven : (bytes : List ℕ) → load bytes ≡ onward (many 7 number bytes) (λ l. pure (load_in l))
unfolding load many
load_seven bytes =
    before-many number 6 load_in _ bytes λ m r₁.
    before-many number 5 (λ l. load_in (m ∷ l)) _ r₁ λ h r₂.
    before-many number 4 (λ l. load_in (m ∷ h ∷ l)) _ r₂ λ size r₃.
    before-many number 3 (λ l. load_in (m ∷ h ∷ size ∷ l)) _ r₃ λ count r₄.
    before-many number 2 (λ l. load_in (m ∷ h ∷ size ∷ count ∷ l)) _ r₄ λ constraints r₅.
    before-many number 1 (λ l. load_in (m ∷ h ∷ size ∷ count ∷ constraints ∷ l)) _ r₅ λ seed r₆.
    before-many number 0 (λ l. load_in (m ∷ h ∷ size ∷ count ∷ constraints ∷ seed ∷ l)) _ r₆ λ k r₇. refl

module _ (input : List ℕ) where
  pub seven_none : many 7 number input ≡ None → parse_load input ≡ None
  unfolding parse_load
  seven_none e = ap wholly (load_seven input ∙ ap (λ (t : Option (Parsed (List ℕ))). onward t (λ k. pure (load_in k))) e)

  module _ (l o : List ℕ) (next : ℕ) (seven : Words (λ v. v) input 0 7 7 0 l o next) where
    whole : parse_load input ≡ if_none_left (drop next input) (load_in seven.value)
    unfolding parse_load
    whole = ap wholly (load_seven input ∙ ap (λ (t : Option (Parsed (List ℕ))). onward t (λ k. pure (load_in k))) seven.reads)

    pub seven_runs_on : next < length input → parse_load input ≡ None
    seven_runs_on u = whole ∙ ap (λ (t : List ℕ). if_none_left t (load_in seven.value)) (drop-cons input next 0 u)

    module _ (room : length l ≡ 7) where
      -- the words hold what was read
      in_words : o ≡ seven.value
      in_words =
          let c = reads-count number input 0 _ 7 next seven in
          stored_plain 7 0 l o seven.value seven.stored ∙ ap (sets l 0) (take_all 7 seven.value (omega arith)) ∙ over-front seven.value l (omega arith)
          ∙ over-all seven.value l (omega arith)

      pub seven_good : length input ≤ next → parse_load input ≡ Some (load_in o)
      seven_good u =
          whole ∙ ap (λ (t : List ℕ). if_none_left t (load_in seven.value)) (drop_of_length-le input u)
          ∙ ap (λ (k : List ℕ). Some (load_in k)) (sym in_words)
