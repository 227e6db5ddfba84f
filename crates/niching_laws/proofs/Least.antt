-- A balanced filling is a least one: no other filling of the same places has a smaller sum of squared counts.
use Prim.Native.Nat.{ℕ, zero, suc, ◌+◌, ◌-◌, ◌*◌, ◌≤◌, ◌<◌, max}
use mathlib.Core.Path.{◌≡◌, refl, ap, ◌∙◌, fun_ext}
use mathlib.Core.Bool.{true}
use mathlib.Core.List.Memᴰ
use mathlib.Core.List.{List, [], ◌∷◌, ◌++◌, Nodup}
use native.Mathlib.Nat.{mul-le-mul_right, add-sub_of_le, le_of_lt}
use native.Mathlib.Omega.{arith}
use lib.Dec.{eqb}
use borrow.Author.Tests.{eqb-true}
use Rattle.model.specs.Lists.{In, sum_below}
use Rattle.model.specs.Kept.{niche_count}
use Rattle.niching_laws.specs.Niching.{Served, Waited, Filling, Balanced, Least}
use Rattle.list_laws.proofs.Below.{by_lt}
use Rattle.list_laws.proofs.Counts.{sum_below_mono, sum_below-add}
use Rattle.list_laws.proofs.Members.{tally-append, tally_labels}
use Rattle.niching_laws.proofs.Tally.{tally-found, pigeonhole, Extra}

-- ---- one line, ours with count c and the other filling's with count c'; K is one below the largest count of a served line

-- the other has d more there
more_there : (K c d : ℕ) → K ≤ c → 1 ≤ d → c * c + (2 * K + 1) * (c + d) ≤ (c + d) * (c + d) + (2 * K + 1) * c
more_there K c d h k = omega (arith, mul-le-mul_right d h, mul-le-mul_right d k)

-- the other has d fewer there
fewer_there : (K c d : ℕ) → c + d ≤ K + 1 → 1 ≤ d → (c + d) * (c + d) + (2 * K + 1) * c ≤ c * c + (2 * K + 1) * (c + d)
fewer_there K c d h k = omega (arith, mul-le-mul_right d h, mul-le-mul_right d k)

one_line : (K c c' : ℕ) → (c < c' → K ≤ c) → (c' < c → c ≤ K + 1) → c * c + (2 * K + 1) * c' ≤ c' * c' + (2 * K + 1) * c
one_line K c c' up down = by_lt c c'
    (λ h. rw (add-sub_of_le (le_of_lt h)) at (more_there K c (c' - c) (up h) (omega arith)))
    (λ e. by_lt c' c
    (λ h. let s : c' + (c - c') ≡ c = add-sub_of_le (le_of_lt h) in rw s at (fewer_there K c' (c - c') (rw s (down h)) (omega arith)))
    (λ k. let s : c ≡ c' = omega arith in rw s (omega arith)))

-- ---- the largest of f over a list

highest : (ℕ → ℕ) → List ℕ → ℕ
highest f [] = 0
highest f (p ∷ ps) = max (f p) (highest f ps)

le_highest : (f : ℕ → ℕ) {p : ℕ} {ps : List ℕ} → In p ps → f p ≤ highest f ps
unfolding highest
le_highest f (Memᴰ.head e) = rw e (omega arith)
le_highest f (Memᴰ.tail m) = omega (arith, le_highest f m)

highest_le : (f : ℕ → ℕ) (b : ℕ) (ps : List ℕ) → ((p : ℕ) → In p ps → f p ≤ b) → highest f ps ≤ b
unfolding highest
highest_le f b [] h = omega arith
highest_le f b (p ∷ ps) h = omega (arith, h p (Memᴰ.head refl), highest_le f b ps (λ q m. h q (Memᴰ.tail m)))

-- one below the largest count of a served line
abbrev level : List ℕ → (ℕ → ℕ) → List ℕ → ℕ
level before line picked = highest (λ (p : ℕ). niche_count line (before ++ picked) (line p)) picked - 1

-- ---- all lines

sum_scale : (k : ℕ) (f : ℕ → ℕ) (n : ℕ) → sum_below (λ l. k * f l) n ≡ k * sum_below f n
unfolding sum_below
sum_scale k f zero = omega arith
sum_scale k f (suc n) = omega (arith, sum_scale k f n)

module _ (before front : List ℕ) (line : ℕ → ℕ) (lines n : ℕ) (inside : (p : ℕ) → In p front → line p < lines) where
  -- the counts of a filling add up to the same total as those of any other
  total-filled : (other : List ℕ) → Filling front n other → sum_below (niche_count line (before ++ other)) lines ≡ sum_below (niche_count line before) lines + n
  total-filled other f =
      ap (λ (f : ℕ → ℕ). sum_below f lines) (fun_ext (λ (l : ℕ). tally-append (λ (p : ℕ). eqb (line p) l) before other))
      ∙ sum_below-add (niche_count line before) (niche_count line other) lines
      ∙ ap (λ (k : ℕ). sum_below (niche_count line before) lines + k) (tally_labels line lines other (λ p m. inside p (f.members p m)) ∙ f.size)

  module _ (picked : List ℕ) (balance : Balanced before front line picked) where
    -- the level is no more than the count of a line with a waiting member, and a served line counts at most one more
    level-waited : (l : ℕ) → Waited line front picked l → level before line picked ≤ niche_count line (before ++ picked) l
    level-waited l t =
        omega (
          arith,
          highest_le (λ (p : ℕ). niche_count line (before ++ picked) (line p)) (niche_count line (before ++ picked) l + 1) picked
              (λ p m. balance (line p) l (record { plan = p; listed = m; on_line = refl }) t),
        )

    level_served : (l : ℕ) → Served line picked l → niche_count line (before ++ picked) l ≤ level before line picked + 1
    level_served l s = omega (arith, rw s.on_line at (le_highest (λ (p : ℕ). niche_count line (before ++ picked) (line p)) s.listed))

    module _ (other : List ℕ) (distinct : Nodup other) (members : (p : ℕ) → In p other → In p front) (l : ℕ) where
      -- where the other filling has more, a plan of it waits
      waited_where_more : niche_count line (before ++ picked) l < niche_count line (before ++ other) l → Waited line front picked l
      waited_where_more h = found (pigeonhole (λ (p : ℕ). eqb (line p) l) other picked distinct (omega (arith, simp tally-append at h)))
        where
          found : Extra (λ (p : ℕ). eqb (line p) l) other picked → Waited line front picked l
          found r =
              record {
                plan = r.plan;
                waits = record { member = members r.plan r.listed; unpicked = r.absent };
                on_line = eqb-true (line r.plan) l r.passes;
              }

      -- where it has fewer, the line was served
      served_where_fewer : niche_count line (before ++ other) l < niche_count line (before ++ picked) l → Served line picked l
      served_where_fewer h = found (tally-found (λ (p : ℕ). eqb (line p) l) picked (omega (arith, simp tally-append at h)))
        where
          found : (p : ℕ) × In p picked × (eqb (line p) l ≡ true) → Served line picked l
          found r = record { plan = r.0; listed = r.1; on_line = eqb-true (line r.0) l r.2 }

    pub balanced-least : Filling front n picked → Least before front line lines n picked
    balanced-least f other g =
        omega (arith, rw (total-filled picked f, total-filled other g) at (simp (sum_below-add, sum_scale) at summed))
      where
        k : ℕ
        k = level before line picked

        c : ℕ → ℕ
        c = niche_count line (before ++ picked)

        c' : ℕ → ℕ
        c' = niche_count line (before ++ other)

        summed : sum_below (λ (l : ℕ). c l * c l + (2 * k + 1) * c' l) lines ≤ sum_below (λ (l : ℕ). c' l * c' l + (2 * k + 1) * c l) lines
        summed =
            sum_below_mono (λ (l : ℕ). c l * c l + (2 * k + 1) * c' l) (λ (l : ℕ). c' l * c' l + (2 * k + 1) * c l) lines
            (λ l _. one_line k (c l) (c' l)
            (λ h. level-waited l (waited_where_more other g.distinct g.members l h))
            (λ h. level_served l (served_where_fewer other g.distinct g.members l h)))
