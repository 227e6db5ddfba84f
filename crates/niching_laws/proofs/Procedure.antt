-- Where no distance of the front's plans is a NaN, the picks are those of the paper's niching procedure: its random choices are taken, the nearest candidate at
-- niche count 0, and a line is set aside only while it has the least niche count and no candidate.
use Prim.Native.Nat.{ℕ, zero, suc, ◌≤◌, ◌<◌}
use mathlib.Core.Path.{◌≡◌, refl, sym, ap, ap₂, subst, ◌∙◌}
use mathlib.Core.Logic.{◌≢◌, ⊎_elim}
use mathlib.Core.Bool.{Bool, true, false}
use mathlib.Core.List.Memᴰ
use mathlib.Core.List.{List, [], ◌∷◌, ◌++◌}
use native.Mathlib.Omega.{arith}
use lib.Dec.{T, eqb}
use lib.Ieee.{Float, le, is_nan}
use lib.ListN.{length}
use borrow.Author.Tests.{eqb-true, eqb-false}
use Rattle.model.specs.Lists.{In, has}
use Rattle.model.specs.Kept.{niche_count, waiting, pick_one, picks}
use Rattle.model.specs.Papers.DebJain2014.{Candidate, Least, Reached, start, exclude, pick_nearest, pick_any}
use Rattle.niching_laws.specs.Niching.{Split, ByProcedure}
use Rattle.list_laws.proofs.Below.{last_or, by_lt}
use Rattle.list_laws.proofs.Draws.{draw_all-keeps}
use Rattle.list_laws.proofs.Members.{has_in, has-not}
use Rattle.float_laws.proofs.Compared.{lt_le}
use Rattle.niching_laws.proofs.Choice.{Chosen}
use Rattle.niching_laws.proofs.Picks.{waiting_in, in_waiting, pick_one-chosen}

module _ (before front : List ℕ) (line : ℕ → ℕ) (distance : ℕ → Float) (lines : ℕ) where
  -- no line that is set aside has a candidate
  abbrev Barren : List ℕ → List ℕ → Type 0
  Barren picked excluded = (j : ℕ) → In j excluded → (p : ℕ) → Candidate before front line lines picked j p → ⊥

  -- the procedure got here, with lines set aside of which none has a candidate, among them all of count below c, and of the first m all of count c
  record Cleared (picked : List ℕ) (c m : ℕ) : Type 0 where
    here : ByProcedure before front line distance lines picked
    barren : Barren picked here.excluded
    lower : (i : ℕ) → i < lines → niche_count line (before ++ picked) i < c → In i here.excluded
    level : (i : ℕ) → i < m → niche_count line (before ++ picked) i ≡ c → In i here.excluded

  -- at first no count is asked for
  cleared : {picked : List ℕ} (here : ByProcedure before front line distance lines picked) → Barren picked here.excluded → Cleared picked 0 0
  cleared here barren = record { here = here; barren = barren; lower = λ i l k. absurd (omega arith); level = λ i l k. absurd (omega arith) }

  module _ (picked : List ℕ) where
    -- where the lines of a count below c are set aside, a line of count c that is not set aside is a least one
    level-least : {c m : ℕ} (t : Cleared picked c m) (j : ℕ) → j < lines → niche_count line (before ++ picked) j ≡ c → (In j t.here.excluded → ⊥)
        → Least before front line lines t.here.excluded picked j
    level-least {c} t j inside e fresh = record { inside = inside; considered = fresh; least = least }
      where
        least : (i : ℕ) → i < lines → (In i t.here.excluded → ⊥) → niche_count line (before ++ picked) j ≤ niche_count line (before ++ picked) i
        least i h k = by_lt (niche_count line (before ++ picked) i) c (λ u. absurd (k (t.lower i h u))) (λ u. omega arith)

    -- one more line of count c, where no line of count c has a candidate
    clear_line : (c m : ℕ) → m < lines → ((j p : ℕ) → Candidate before front line lines picked j p → niche_count line (before ++ picked) j ≢ c)
        → Cleared picked c m → Cleared picked c (suc m)
    clear_line c m inside none t = go (eqb (niche_count line (before ++ picked) m) c) refl (has t.here.excluded m) refl
      where
        count : ℕ → ℕ
        count = niche_count line (before ++ picked)

        -- m need not be set aside: it has another count, or is set aside already
        stay : (count m ≡ c → In m t.here.excluded) → Cleared picked c (suc m)
        stay there =
            record {
              here = t.here;
              barren = t.barren;
              lower = t.lower;
              level = λ i h e. last_or h (λ same. Memᴰ.cast same (there (ap count (sym same) ∙ e))) (λ less. t.level i less e);
            }

        add : count m ≡ c → (In m t.here.excluded → ⊥) → Cleared picked c (suc m)
        add e fresh =
            record {
              here = record { excluded = m ∷ t.here.excluded; reached = exclude t.here.reached (level-least t m inside e fresh) (λ p k. none m p k e) };
              barren = λ j i p k. ⊎_elim (λ same. none j p k (ap count same ∙ e)) (λ (h : In j t.here.excluded). t.barren j h p k) (Memᴰ.cases_cons i);
              lower = λ i h k. Memᴰ.tail (t.lower i h k);
              level = λ i h k. last_or h (λ same. Memᴰ.head same) (λ less. Memᴰ.tail (t.level i less k));
            }

        go : (a : Bool) → eqb (count m) c ≡ a → (b : Bool) → has t.here.excluded m ≡ b → Cleared picked c (suc m)
        go false e b k = stay (λ h. absurd (eqb-false (count m) c e h))
        go true e true k = stay (λ _. has_in t.here.excluded m k)
        go true e false k = add (eqb-true (count m) c e) (has-not t.here.excluded m k)

    -- all lines of count c
    clear_level : (c : ℕ) → ((j p : ℕ) → Candidate before front line lines picked j p → niche_count line (before ++ picked) j ≢ c)
        → Cleared picked c 0 → (m : ℕ) → m ≤ lines → Cleared picked c m
    clear_level c none t zero h = t
    clear_level c none t (suc m) h = clear_line c m h none (clear_level c none t m (omega arith))

    -- all lines of a count below c, where each line with a candidate counts at least c
    clear_below : Cleared picked 0 0 → (c : ℕ) → ((j p : ℕ) → Candidate before front line lines picked j p → c ≤ niche_count line (before ++ picked) j)
        → Cleared picked c 0
    clear_below t zero least = t
    clear_below t (suc c) least =
        let u = clear_level c (λ j p k e. omega (arith, least j p k)) (clear_below t c (λ j p k. omega (arith, least j p k))) lines (omega arith) in
        record {
          here = u.here;
          barren = u.barren;
          lower = λ i h k. last_or k (λ same. u.level i h same) (λ less. u.lower i h less);
          level = λ i h k. absurd (omega arith);
        }

  -- ---- one pick

  module _ (picked : List ℕ) (p : ℕ) (chosen : Chosen line distance (niche_count line (before ++ picked)) (waiting front picked) p) where
    candidate : Candidate before front line lines picked (line p) p
    candidate = let w = in_waiting front picked p chosen.listed in record { member = w.member; unpicked = w.unpicked; on_line = refl }

    candidate_waits : (j q : ℕ) → Candidate before front line lines picked j q → In q (waiting front picked)
    candidate_waits j q k = waiting_in front picked q (record { member = k.member; unpicked = k.unpicked })

    -- what is a candidate after the pick was one before
    candidate_before : (j q : ℕ) → Candidate before front line lines (picked ++ (p ∷ [])) j q → Candidate before front line lines picked j q
    candidate_before j q k = record { member = k.member; unpicked = λ i. k.unpicked (Memᴰ.append_left (p ∷ []) i); on_line = k.on_line }

    -- once the lines of a lower count are set aside, p's line is a least one
    chosen-least : line p < lines → (t : Cleared picked (niche_count line (before ++ picked) (line p)) 0) → Least before front line lines t.here.excluded picked (line p)
    chosen-least h t = level-least picked t (line p) h refl (λ i. t.barren (line p) i p candidate)

    picked-once : line p < lines → ((q : ℕ) → In q front → is_nan (distance q) ≡ false) → Cleared picked 0 0 → Cleared (picked ++ (p ∷ [])) 0 0
    picked-once h known begin =
        cleared (record { excluded = t.here.excluded; reached = go (niche_count line (before ++ picked) (line p)) refl })
        (λ j i q k. t.barren j i q (candidate_before j q k))
      where
        t : Cleared picked (niche_count line (before ++ picked) (line p)) 0
        t =
            clear_below picked begin (niche_count line (before ++ picked) (line p))
            (λ j q k. rw k.on_line at (chosen.least q (candidate_waits j q k)))

        -- no candidate of p's line is nearer
        near : niche_count line (before ++ picked) (line p) ≡ 0 → (q : ℕ) → Candidate before front line lines picked (line p) q → T (le (distance p) (distance q))
        near e q k =
            lt_le (distance p) (distance q) (known p candidate.member) (known q k.member) (chosen.nearest e q (candidate_waits (line p) q k) k.on_line)

        go : (c : ℕ) → niche_count line (before ++ picked) (line p) ≡ c → Reached before front line distance lines t.here.excluded (picked ++ (p ∷ []))
        go zero e = pick_nearest t.here.reached (chosen-least h t) e candidate (near e)
        go (suc c) e = pick_any t.here.reached (chosen-least h t) (omega arith) candidate

-- ---- all picks

module _ (distance : ℕ → Float) {before front : List ℕ} {line : ℕ → ℕ} {lines : ℕ} (split : Split before front line lines)
    (known : (p : ℕ) → In p front → is_nan (distance p) ≡ false) where
  picks-cleared : (n s : ℕ) → n ≤ length front → Cleared before front line distance lines (picks line distance lines before front n s).value 0 0
  picks-cleared n s h =
      (draw_all-keeps (λ place picked. pick_one line distance lines before front picked) (λ k picked. Cleared before front line distance lines picked 0 0) s n
      (cleared before front line distance lines (record { excluded = []; reached = start }) (λ j i. absurd (Memᴰ.not-nil i)))
      (λ k picked t u e cleared. let c = pick_one-chosen distance split t picked (omega arith) in
      picked-once before front line distance lines picked _ c (split.inside _ (in_waiting front picked _ c.listed).member) known cleared)).1

  -- with no more open places than the front has plans, the procedure of Deb and Jain can pick what `picks` picks
  pub picks_procedure : (n s : ℕ) → n ≤ length front → ByProcedure before front line distance lines (picks line distance lines before front n s).value
  picks_procedure n s h = (picks-cleared n s h).here

-- ---- other distances

-- only the distances of the front's plans are looked at
module _ {before front : List ℕ} {line : ℕ → ℕ} {distance : ℕ → Float} {lines : ℕ} (other : ℕ → Float)
    (same : (p : ℕ) → In p front → distance p ≡ other p) where
  reached-other : {excluded picked : List ℕ} → Reached before front line distance lines excluded picked → Reached before front line other lines excluded picked
  reached-other start = start
  reached-other (exclude r l none) = exclude (reached-other r) l none
  reached-other (pick_nearest {p = p} r l z c nearest) =
      pick_nearest (reached-other r) l z c (λ q k. subst (λ b. T b) (ap₂ le (same p c.member) (same q k.member)) (nearest q k))
  reached-other (pick_any r l z c) = pick_any (reached-other r) l z c

  pub procedure_other : {picked : List ℕ} → ByProcedure before front line distance lines picked → ByProcedure before front line other lines picked
  procedure_other b = record { excluded = b.excluded; reached = reached-other b.reached }
