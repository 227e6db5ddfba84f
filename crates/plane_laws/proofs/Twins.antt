-- THEOREM: two extremes that are the same plan end in a pivot of 0, where the numbers of the elimination are finite: two equal rows stay equal until one of them is the pivot
-- row, which leaves zeros of the other; a row of zeros stays one until it is the pivot row.
use Prim.Native.Nat.{ℕ, zero, suc, ◌+◌, ◌-◌, ◌≤◌, ◌<◌}
use mathlib.Core.Path.{◌≡◌, refl, ap, ap₂, sym, subst, ◌∙◌}
use mathlib.Core.Bool.{Bool, true, false, cond}
use mathlib.Core.List.{List}
use mathlib.Core.Logic.{◌⊎◌, inl, inr}
use native.Mathlib.Omega.{arith}
use borrow.Author.Tests.{eq-eqb, ne_eqb, eqb-true, eqb-false}
use lib.Dec.{T, eqb, ltb}
use lib.Ieee.{Float, binary64, fits, lt, eq, of_bits}
use lib.Ieee.Scale.{finite}
use lib.Ieee.Fits.{sub-fits}
use lib.ListN.{length, get_or, replicate, length-replicate}
use Rattle.model.specs.Lists.{any_below}
use Rattle.model.specs.Real.{◌⊖◌, ◌⊗◌, ◌⊘◌, nought, unit}
use Rattle.list_laws.proofs.Bools.{by_bool, by_cond}
use Rattle.list_laws.proofs.Below.{by_lt}
use Rattle.list_laws.proofs.Best.{best_all}
use Rattle.list_laws.proofs.Tests.{any_below-some, any_below-at}
use Rattle.float_laws.proofs.Units.{Number}
use Rattle.float_laws.proofs.Constants.{one-fits}
use Rattle.model.specs.Hyperplane.{Matrix, entry, magnitude, plane_row, plane_rows, pivot_row, swapped, stepped, eliminated, same_before, same_extremes, zero_pivot, unbounded_matrix, plane_through}
use Rattle.hyperplane_laws.proofs.Steps.{pivot-below}
use Rattle.hyperplane_laws.proofs.Entries.{swapped-first, swapped-second, swapped_else, stepped-upper, stepped-lower, stepped-length}
use Rattle.hyperplane_laws.proofs.Finite.{Bounded, test_bounded, quotients_finite, products_finite, earlier_finite}
use Rattle.plane_laws.proofs.Zeros.{IsZero, zero-equal, zero_div, zero_times, zero-less, self_quotient, less_itself}
use Rattle.plane_laws.proofs.Axes.{rows-entry, rows-length}

-- ---- rows k and p change places: where row r goes, and which row comes to r

abbrev to : ℕ → ℕ → ℕ → ℕ
to k p r = cond (eqb r k) p (cond (eqb r p) k r)

to-first : (k p r : ℕ) → r ≡ k → to k p r ≡ p
to-first k p r e = ap (λ b. cond b p (cond (eqb r p) k r)) (eq-eqb r k e)

to-second : (k p r : ℕ) → r ≡ p → to k p r ≡ k
to-second k p r e = by_bool (eqb r k)
    (λ v. to-first k p r (eqb-true r k v) ∙ sym e ∙ eqb-true r k v)
    (λ v. ap (λ b. cond b p (cond (eqb r p) k r)) v ∙ ap (λ b. cond b k r) (eq-eqb r p e))

to_else : (k p r : ℕ) → (r ≡ k → ⊥) → (r ≡ p → ⊥) → to k p r ≡ r
to_else k p r f g = ap (λ b. cond b p (cond (eqb r p) k r)) (ne_eqb r k f) ∙ ap (λ b. cond b k r) (ne_eqb r p g)

to-to : (k p r : ℕ) → to k p (to k p r) ≡ r
to-to k p r = by_bool (eqb r k)
    (λ v. let e = eqb-true r k v in to-second k p (to k p r) (to-first k p r e) ∙ sym e)
    (λ v. by_bool (eqb r p)
    (λ w. let e = eqb-true r p w in to-first k p (to k p r) (to-second k p r e) ∙ sym e)
    (λ w. let e = to_else k p r (eqb-false r k v) (eqb-false r p w) in ap (to k p) e ∙ e))

to-within : (k p r m : ℕ) → k < m → k ≤ p → p < m → k ≤ r → r < m → (k ≤ to k p r) × (to k p r < m)
to-within k p r m h g l u v =
    by_cond (λ t. (k ≤ t) × (t < m)) (eqb r k) p (cond (eqb r p) k r) (λ e. (g, l))
    (λ e. by_cond (λ t. (k ≤ t) × (t < m)) (eqb r p) k r (λ f. (omega arith, h)) (λ f. (u, v)))

module _ (m : ℕ) (few : m ≤ 8) where
  row_from : (a : Matrix) (k p i j : ℕ) → 72 ≤ length a → k < m → p < m → j < m + 1 → entry (swapped m a k p) i j ≡ entry a (to k p i) j
  row_from a k p i j room h g u = by_bool (eqb i k)
      (λ e. let q = eqb-true i k e in
      ap (λ t. entry (swapped m a k p) t j) q ∙ swapped-first m few a k p j room (omega arith) (omega arith) u ∙ ap (λ t. entry a t j) (sym (to-first k p i q)))
      (λ e. by_bool (eqb i p)
      (λ f. let q = eqb-true i p f in
      ap (λ t. entry (swapped m a k p) t j) q ∙ swapped-second m few a k p j room (omega arith) u ∙ ap (λ t. entry a t j) (sym (to-second k p i q)))
      (λ f. swapped_else m few a k p i j (eqb-false i k e) (eqb-false i p f) u ∙ ap (λ t. entry a t j) (sym (to_else k p i (eqb-false i k e) (eqb-false i p f)))))

  -- the pivot row is none of those before k
  pivot-from : (a : Matrix) (k : ℕ) → k ≤ pivot_row m a k
  unfolding pivot_row
  pivot-from a k = best_all (λ p q. lt (magnitude (entry a q k)) (magnitude (entry a p k))) (λ p. k ≤ p) k (λ t. k + t) (m - k) (omega arith) (λ t u. omega arith)

  -- ---- what becomes of two equal rows

  -- every entry is a double
  abbrev Held : Matrix → Type 0
  Held M = (i j : ℕ) → i < m → j < m + 1 → T (fits binary64 (entry M i j))

  -- among the rows from k on two are equal; or one is zeros; or a pivot before k is 0
  record Twins (k : ℕ) (M : Matrix) : Type 0 where
    p : ℕ
    q : ℕ
    from : k ≤ p
    below : p < m
    from-other : k ≤ q
    below_other : q < m
    apart : p ≡ q → ⊥
    equal : (j : ℕ) → j < m + 1 → entry M p j ≡ entry M q j

  record Zeros (k : ℕ) (M : Matrix) : Type 0 where
    p : ℕ
    from : k ≤ p
    below : p < m
    zeros : (j : ℕ) → j < m + 1 → IsZero (entry M p j)

  record Ended (k : ℕ) (M : Matrix) : Type 0 where
    t : ℕ
    before : t < k
    below : t < m
    pivot : eq (entry M t t) nought ≡ true

  abbrev Fate : ℕ → Matrix → Type 0
  Fate k M = Twins k M ⊎ (Zeros k M ⊎ Ended k M)

  module _ (M : Matrix) (k : ℕ) (room : 72 ≤ length M) (h : k < m) (H : Held M) (F : Bounded m M) (B : Bounded m (stepped m M k)) where
    abbrev P : ℕ
    P = pivot_row m M k

    abbrev b : Matrix
    b = swapped m M k P

    abbrev next : Matrix
    next = stepped m M k

    comes : (i j : ℕ) → j < m + 1 → entry b i j ≡ entry M (to k P i) j
    comes i j u = row_from M k P i j room h (pivot-below m M k h) u

    goes : (r j : ℕ) → j < m + 1 → entry b (to k P r) j ≡ entry M r j
    goes r j u = comes (to k P r) j u ∙ ap (λ t. entry M t j) (to-to k P r)

    within : (r : ℕ) → k ≤ r → r < m → (k ≤ to k P r) × (to k P r < m)
    within r u v = to-within k P r m h (pivot-from M k) (pivot-below m M k h) u v

    inside : (i : ℕ) → i < m → to k P i < m
    inside i u = by_cond (λ t. t < m) (eqb i k) P (cond (eqb i P) k i) (λ e. pivot-below m M k h) (λ e. by_cond (λ t. t < m) (eqb i P) k i (λ f. h) (λ f. u))

    b-number : (i j : ℕ) → i < m → j < m + 1 → Number binary64 (entry b i j)
    b-number i j u v =
        let e = sym (comes i j v) in
        record { held = subst (λ x. T (fits binary64 x)) e (H (to k P i) j (inside i u) v); finite = subst (λ x. T (finite x)) e (F (to k P i) j (inside i u) v) }

    next-held : Held next
    next-held i j u v = by_lt k i
        (λ l. subst (λ x. T (fits binary64 x)) (sym (stepped-lower m few M k room h i j l u v)) (sub-fits binary64 _ _))
        (λ l. subst (λ x. T (fits binary64 x)) (sym (stepped-upper m few M k room h i j l v)) (b-number i j u v).held)

    -- a row of zeros below the pivot row, and in its place
    zero-below : (r : ℕ) → k < r → r < m → ((j : ℕ) → j < m + 1 → IsZero (entry b r j)) → Zeros (k + 1) next
    zero-below r l u z = record {
      p = r;
      from = omega arith;
      below = u;
      zeros = λ j v. subst IsZero (sym (stepped-lower m few M k room h r j l u v))
          (zero-less (entry b r j) _ (z j v)
          (zero_times _ (entry b k j) (zero_div (entry b r k) (entry b k k) (z k (omega arith)) (quotients_finite m few M k room h B r l u)) (products_finite m few M k room h B r j l u v)));
    }

    zero-pivot : ((j : ℕ) → j < m + 1 → IsZero (entry b k j)) → Ended (k + 1) next
    zero-pivot z = record {
      t = k;
      before = omega arith;
      below = h;
      pivot = ap (λ x. eq x nought) (stepped-upper m few M k room h k k (omega arith) (omega arith)) ∙ zero-equal (entry b k k) (z k (omega arith));
    }

    -- the twin of the pivot row becomes zeros
    twin_below : (r : ℕ) → k < r → r < m → ((j : ℕ) → j < m + 1 → entry b r j ≡ entry b k j) → Zeros (k + 1) next
    twin_below r l u same = record {
      p = r;
      from = omega arith;
      below = u;
      zeros = λ j v.
          let x = same k (omega arith) in
          let q = ap (λ y. y ⊘ entry b k k) x in
          let one-quotient = self_quotient (entry b k k) (subst (λ y. T (finite y)) q (quotients_finite m few M k room h B r l u)) in
          subst IsZero
          (sym (stepped-lower m few M k room h r j l u v ∙ ap₂ (λ y w. y ⊖ (w ⊗ entry b k j)) (same j v) (q ∙ one-quotient)))
          (less_itself (entry b k j) (b-number k j h v));
    }

    -- ---- a step

    step-zeros : Zeros k M → Fate (k + 1) next
    step-zeros Z =
        let r = to k P Z.p in
        let w = within Z.p Z.from Z.below in
        let z : (j : ℕ) → j < m + 1 → IsZero (entry b r j) = λ j v. subst IsZero (sym (goes Z.p j v)) (Z.zeros j v) in
        by_lt k r
        (λ l. inr (inl (zero-below r l w.1 z)))
        (λ l. let e : r ≡ k = omega arith in inr (inr (zero-pivot (subst (λ t. (j : ℕ) → j < m + 1 → IsZero (entry b t j)) e z))))

    step-ended : Ended k M → Fate (k + 1) next
    step-ended E =
        let t = E.t in
        let e = to_else k P t (λ q. omega (arith, E.before)) (λ q. omega (arith, E.before, pivot-from M k)) in
        inr (inr (record {
          t = t;
          before = omega (arith, E.before);
          below = E.below;
          pivot = ap (λ x. eq x nought)
              (stepped-upper m few M k room h t t (omega (arith, E.before)) (omega (arith, E.below)) ∙ comes t t (omega (arith, E.below)) ∙ ap (λ s. entry M s t) e)
              ∙ E.pivot;
        }))

    step-twins : Twins k M → Fate (k + 1) next
    step-twins W =
        let p = to k P W.p in
        let q = to k P W.q in
        let u = within W.p W.from W.below in
        let v = within W.q W.from-other W.below_other in
        let apart : p ≡ q → ⊥ = λ e. W.apart (sym (to-to k P W.p) ∙ ap (to k P) e ∙ to-to k P W.q) in
        let same : (j : ℕ) → j < m + 1 → entry b p j ≡ entry b q j = λ j g. goes W.p j g ∙ W.equal j g ∙ sym (goes W.q j g) in
        by_lt k p
        (λ l. by_lt k q
        (λ g. inl (record {
          p = p;
          q = q;
          from = omega arith;
          below = u.1;
          from-other = omega arith;
          below_other = v.1;
          apart = apart;
          equal = λ j i. stepped-lower m few M k room h p j l u.1 i
              ∙ ap₂ (λ x y. x ⊖ ((y ⊘ entry b k k) ⊗ entry b k j)) (same j i) (same k (omega arith))
              ∙ sym (stepped-lower m few M k room h q j g v.1 i);
        }))
        (λ g. let e : q ≡ k = omega (arith, v.0) in inr (inl (twin_below p l u.1 (λ j i. same j i ∙ ap (λ t. entry b t j) e)))))
        (λ l. let e : p ≡ k = omega (arith, u.0) in
        by_lt k q
        (λ g. inr (inl (twin_below q g v.1 (λ j i. sym (same j i) ∙ ap (λ t. entry b t j) e))))
        (λ g. absurd (apart (e ∙ (let f : k ≡ q = omega (arith, v.0) in f)))))

    step_fate : Fate k M → Fate (k + 1) next
    step_fate w = elim w [ inl t ↦ step-twins t | inr o ↦ elim o [ inl z ↦ step-zeros z | inr e ↦ step-ended e ] ]

  -- ---- all steps

  module _ (M : Matrix) (room : 72 ≤ length M) (H : Held M) (B : Bounded m (eliminated m M m)) (w : Twins 0 M) where
    bounded_at : (k : ℕ) → k ≤ m → Bounded m (eliminated m M k)
    bounded_at k h = earlier_finite m few M room (m - k) k (omega arith) (subst (λ t. Bounded m (eliminated m M t)) (let e : m ≡ k + (m - k) = omega arith in e) B)

    fate_at : (k : ℕ) → k ≤ m → (length (eliminated m M k) ≡ length M) × Held (eliminated m M k) × Fate k (eliminated m M k)
    unfolding eliminated
    fate_at zero h = (refl, H, inl w)
    fate_at (suc k) h =
        let r = fate_at k (omega arith) in
        let a = eliminated m M k in
        let wide : 72 ≤ length a = omega (arith, r.0) in
        let F = bounded_at k (omega arith) in
        let N = bounded_at (suc k) h in (
          stepped-length m few a k wide (omega arith) ∙ r.0,
          next-held a k wide (omega arith) r.1 F N,
          subst (λ t. Fate t (stepped m a k)) (let e : k + 1 ≡ suc k = omega arith in e) (step_fate a k wide (omega arith) r.1 F N r.2),
        )

    twins_end : Ended m (eliminated m M m)
    twins_end = elim (fate_at m (omega arith)).2 [
      | inl t ↦ absurd (omega (arith, t.from, t.below))
      | inr o ↦ elim o [ inl z ↦ absurd (omega (arith, z.from, z.below)) | inr e ↦ e ]
    ]

-- ---- the plane

module _ (m : ℕ) (few : m ≤ 8) (value : ℕ → ℕ → Float) (ideal : ℕ → Float) (extremes : List ℕ) where
  abbrev rows : ℕ → ℕ → Float
  rows i = value (get_or extremes i 0)

  abbrev z : Matrix
  z = replicate 72 nought

  abbrev first : Matrix
  first = plane_rows m rows ideal z m

  full : 72 ≤ length z
  full = omega (arith, length-replicate 72 nought)

  wide : 72 ≤ length first
  wide = omega (arith, rows-length m few rows ideal z full m, length-replicate 72 nought)

  row-held : (row : ℕ → Float) (j : ℕ) → T (fits binary64 (plane_row m row ideal j))
  unfolding of_bits
  row-held row j = by_cond (λ x. T (fits binary64 x)) (ltb j m) (row j ⊖ ideal j) unit (λ e. sub-fits binary64 (row j) (ideal j)) (λ e. one-fits binary64)

  first-held : Held m few first
  first-held i j u v = subst (λ x. T (fits binary64 x)) (sym (rows-entry m few rows ideal z full m (omega arith) i j u v)) (row-held (rows i) j)

  twins-of : same_extremes extremes m ≡ true → Twins m few 0 first
  unfolding same_extremes same_before
  twins-of e =
      let i = any_below-some (same_before extremes) m e in
      let j = any_below-some (λ j. eqb (get_or extremes j 0) (get_or extremes i.0 0)) i.0 i.2 in
      record {
        p = j.0;
        q = i.0;
        from = omega arith;
        below = omega (arith, i.1, j.1);
        from-other = omega arith;
        below_other = i.1;
        apart = λ q. omega (arith, j.1);
        equal = λ t u. rows-entry m few rows ideal z full m (omega arith) j.0 t (omega (arith, i.1, j.1)) u
            ∙ ap (λ s. plane_row m (value s) ideal t) (eqb-true _ _ j.2)
            ∙ sym (rows-entry m few rows ideal z full m (omega arith) i.0 t i.1 u);
      }

  -- THEOREM
  pub same-plan-pivot : same_extremes extremes m ≡ true → unbounded_matrix m (plane_through m value ideal extremes).matrix ≡ false
      → zero_pivot m (plane_through m value ideal extremes).matrix ≡ true
  unfolding plane_through zero_pivot
  same-plan-pivot e f =
      let E = twins_end m few first wide first-held (test_bounded m (eliminated m first m) f) (twins-of e) in
      any_below-at (λ k. eq (entry (eliminated m first m) k k) nought) m E.t E.below E.pivot
