-- What n picks give, whatever the random choices were: n different plans of the split front, and balance.
use Prim.Native.Nat.{ℕ, suc, ◌+◌, ◌≤◌}
use mathlib.Core.Path.{◌≡◌, refl, sym, ap, ◌∙◌}
use mathlib.Core.Logic.{◌⊎◌, inl, inr, ◌≢◌}
use mathlib.Core.Bool.{Bool, true, false}
use mathlib.Core.List.Memᴰ
use mathlib.Core.List.{List, [], ◌∷◌, ◌++◌, append_assoc, Nodup-nil}
use native.Mathlib.Omega.{arith}
use lib.Dec.{eqb}
use lib.ListN.{length-append}
use borrow.Author.Tests.{eqb-true, eqb-false, eq-eqb, ne_eqb}
use Rattle.model.specs.Lists.{one, In}
use Rattle.model.specs.Kept.{niche_count}
use Rattle.niching_laws.specs.Niching.{Served, Waited, Run, start, next, Filling, Balanced}
use Rattle.list_laws.proofs.Members.{in_snoc, distinct_snoc, tally_snoc}

-- a plan counts once on its line, and on no other
module _ (line : ℕ → ℕ) (ps : List ℕ) (p : ℕ) where
  pub count_same : (l : ℕ) → line p ≡ l → niche_count line (ps ++ (p ∷ [])) l ≡ niche_count line ps l + 1
  count_same l e = tally_snoc (λ (q : ℕ). eqb (line q) l) ps p ∙ ap (λ b. niche_count line ps l + one b) (eq-eqb (line p) l e)

  pub count-other : (l : ℕ) → line p ≢ l → niche_count line (ps ++ (p ∷ [])) l ≡ niche_count line ps l
  count-other l e = omega (arith, tally_snoc (λ (q : ℕ). eqb (line q) l) ps p, ap one (ne_eqb (line p) l e))

  count_grows : (l : ℕ) → niche_count line ps l ≤ niche_count line (ps ++ (p ∷ [])) l
  count_grows l = omega (arith, tally_snoc (λ (q : ℕ). eqb (line q) l) ps p)

module _ {before front : List ℕ} {line : ℕ → ℕ} where
  -- the picks are a filling: n different plans of the split front
  pub run_fills : {n : ℕ} {picked : List ℕ} → Run before front line n picked → Filling front n picked
  run_fills start = record { size = refl; distinct = Nodup-nil; members = λ p m. absurd (Memᴰ.not-nil m) }
  run_fills (next {n} {picked} {p} r k) = more (run_fills r)
    where
      in_front_lem : (q : ℕ) → (In q picked → In q front) → In q picked ⊎ (q ≡ p) → In q front
      in_front_lem q h (inl m) = h m
      in_front_lem q h (inr e) = Memᴰ.cast e k.waits.member

      more : Filling front n picked → Filling front (suc n) (picked ++ (p ∷ []))
      more f =
          record {
            size = omega (arith, f.size, length-append picked (p ∷ []));
            distinct = distinct_snoc picked p f.distinct k.waits.unpicked;
            members = λ q m. in_front_lem q (f.members q) (in_snoc picked p q m);
          }

  -- after any number of picks, a served line counts at most one more than a line with a waiting member
  pub run_balance : {n : ℕ} {picked : List ℕ} → Run before front line n picked → Balanced before front line picked
  run_balance start l w s t = absurd (Memᴰ.not-nil s.listed)
  run_balance (next {n} {picked} {p} r k) l w s t =
      rw (← append_assoc before picked (p ∷ []))
      (go (eqb (line p) l) refl (in_snoc picked p s.plan s.listed) (λ h. run_balance r l w h earlier))
    where
      -- what waits after the pick waited before it
      earlier : Waited line front picked w
      earlier =
          record {
            plan = t.plan;
            waits = record { member = t.waits.member; unpicked = λ m. t.waits.unpicked (Memᴰ.append_left (p ∷ []) m) };
            on_line = t.on_line;
          }

      go : (b : Bool) → eqb (line p) l ≡ b → In s.plan picked ⊎ (s.plan ≡ p) → (Served line picked l → niche_count line (before ++ picked) l ≤ niche_count line (before ++ picked) w + 1) → niche_count line (before ++ picked ++ (p ∷ [])) l ≤ niche_count line (before ++ picked ++ (p ∷ [])) w + 1
      go true e m ih =
          let same : line p ≡ l = eqb-true (line p) l e in
          omega (arith, rw same at (k.least w earlier), count_same line (before ++ picked) p l same, count_grows line (before ++ picked) p w)
      go false e (inl m) ih =
          omega (arith, ih (record { plan = s.plan; listed = m; on_line = s.on_line }), count-other line (before ++ picked) p l (eqb-false (line p) l e), count_grows line (before ++ picked) p w)
      go false e (inr h) ih = absurd (eqb-false (line p) l e (ap line (sym h) ∙ s.on_line))
