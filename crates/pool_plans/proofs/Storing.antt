-- What is read one after the other: one more, and none; numbers are stored as far as there is room.
use Prim.Native.Nat.{ℕ, ◌+◌, ◌≤◌, ◌<◌}
use mathlib.Core.Path.{◌≡◌, ap, sym, ◌∙◌}
use mathlib.Core.List.{List, [], ◌∷◌, ◌++◌, map, map-append, map-id}
use Rattle.std.specs.Prelude.{None}
use native.Mathlib.Omega.{arith}
use lib.ListN.{length, take, drop, set, length-append, length-map}
use lib.Seq.{sets, take_all, take-nil, take-append-le}
use Rattle.model.specs.PoolFile.{Reader, pure, number, many}
use Rattle.pool_number.proofs.Options.{many-zero, many_more, many_stop, many-length}
use Rattle.pool_plans.specs.Blocks.{Reads, Held, Words}
use Rattle.list_laws.proofs.Runs.{sets_snoc}

module _ {A : Type 0} (r : Reader A) (file : List ℕ) (at : ℕ) where
  pub reads_none : (Q : List A → Type 0) → Q [] → Reads (many 0 r) Q file at at
  reads_none Q q = record { value = []; reads = many-zero r (drop at file); stored = q }

  module _ (Q : List A → Type 0) (i p : ℕ) (w : Reads (many i r) Q file at p) where
    pub reads-count : length w.value ≡ i
    reads-count = many-length r i (drop at file) w.value (drop p file) w.reads

    pub reads_more : (a : A) (next : ℕ) → r (drop p file) ≡ pure a (drop next file) → (S : List A → Type 0) → S (w.value ++ (a ∷ []))
        → Reads (many (i + 1) r) S file at next
    reads_more a next e S s = record {
      value = w.value ++ (a ∷ []);
      reads = many_more r i (drop at file) w.value (drop p file) a (drop next file) w.reads e;
      stored = s;
    }

    pub reads_stop : (n : ℕ) → i < n → r (drop p file) ≡ None → many n r (drop at file) ≡ None
    reads_stop n h e = many_stop r i n (drop at file) w.value (drop p file) h w.reads e

-- ---- numbers

module _ (h : ℕ → ℕ) (file : List ℕ) (at keep base : ℕ) (l : List ℕ) where
  pub words_none : Words h file at 0 keep base l l at
  words_none = reads_none number file at (Held h keep base l l) (ap (λ (t : List ℕ). sets l base (map h t)) (sym (take-nil keep)))

  module _ (i p v next : ℕ) (o : List ℕ) (e : number (drop p file) ≡ pure v (drop next file)) (w : Words h file at i keep base l o p) where
    count : length w.value ≡ i
    count = reads-count number file at (Held h keep base l o) i p w

    -- one more value: there is room for it, or there is not
    more : (after : List ℕ) → Held h keep base l after (w.value ++ (v ∷ [])) → Words h file at (i + 1) keep base l after next
    more after s = reads_more number file at (Held h keep base l o) i p w v next e (Held h keep base l after) s

    -- where the value goes that the list takes next
    place : i < keep → base + i ≡ base + length (map h (take keep w.value))
    place g = omega (arith, count, length-map (take keep w.value) h, ap length (take_all keep w.value (omega (arith, count))))

    grown : i < keep → map h (take keep w.value) ++ (h v ∷ []) ≡ map h (take keep (w.value ++ (v ∷ [])))
    grown g =
        sym (map-append h (take keep w.value) (v ∷ []))
        ∙ ap (λ (t : List ℕ). map h (t ++ (v ∷ []))) (take_all keep w.value (omega (arith, count)))
        ∙ ap (map h) (sym (take_all keep (w.value ++ (v ∷ [])) (simp length-append (omega (arith, count)))))

    pub words-kept : i < keep → (j : ℕ) → j ≡ base + i → Words h file at (i + 1) keep base l (set o j (h v)) next
    words-kept g j z =
        more _ (ap (λ (t : List ℕ). set t j (h v)) w.stored ∙ sets_snoc l base j (map h (take keep w.value)) (h v) (z ∙ place g)
        ∙ ap (sets l base) (grown g))

    pub words-past : keep ≤ i → Words h file at (i + 1) keep base l o next
    words-past g =
        more o (w.stored ∙ ap (λ (t : List ℕ). sets l base (map h t)) (sym (take-append-le keep w.value (v ∷ []) (omega (arith, count)))))

-- numbers that are stored as they are read
pub stored_plain : (keep base : ℕ) (l o values : List ℕ) → Held (λ v. v) keep base l o values → o ≡ sets l base (take keep values)
stored_plain keep base l o values s = s ∙ ap (sets l base) (map-id (take keep values))
