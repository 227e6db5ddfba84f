-- `picks` is a run, so all that holds of any run holds of the plans that it picks.
use Prim.Native.Nat.{ℕ, ◌≤◌, ◌<◌}
use mathlib.Core.Path.{◌≡◌, sym, ap}
use mathlib.Core.Bool.{true, not}
use mathlib.Core.List.{List, ◌++◌}
use native.Mathlib.Omega.{arith}
use lib.Ieee.{Float}
use lib.ListN.{length}
use borrow.Author.Tests.{not-true}
use Rattle.model.specs.Lists.{In, Distinct, has}
use Rattle.model.specs.Kept.{niche_count, waiting, pick_one, picks, count_at_pick}
use Rattle.niching_laws.specs.Niching.{Split, Waiting, Pick, Run, start, next, Niched}
use Rattle.list_laws.proofs.Draws.{draw_all-keeps}
use Rattle.list_laws.proofs.Members.{has-not, not-has, keep_in, in_keep, tally-all}
use Rattle.niching_laws.proofs.Tally.{pigeonhole}
use Rattle.niching_laws.proofs.Niched.{run_niched}
use Rattle.niching_laws.proofs.Choice.{Chosen, chosen, chosen-line}

-- the list of the waiting holds just those that wait
module _ (front picked : List ℕ) (p : ℕ) where
  pub waiting_in : Waiting front picked p → In p (waiting front picked)
  waiting_in w = keep_in (λ q. not (has picked q)) front p w.member (ap not (not-has picked p w.unpicked))

  pub in_waiting : In p (waiting front picked) → Waiting front picked p
  in_waiting m =
      let t = in_keep (λ q. not (has picked q)) front p m in
      record { member = t.0; unpicked = has-not picked p (not-true (has picked p) t.1) }

-- while fewer plans are picked than the front has, one waits
pub some-waits : (front picked : List ℕ) → Distinct front → length picked < length front → (p : ℕ) × Waiting front picked p
some-waits front picked d h =
    let r = pigeonhole (λ _. true) front picked d (omega (arith, tally-all front, tally-all picked)) in
    (r.plan, record { member = r.listed; unpicked = r.absent })

module _ (distance : ℕ → Float) {before front : List ℕ} {line : ℕ → ℕ} {lines : ℕ} (split : Split before front line lines) where
  -- what `pick_one` takes waits, on a line with the least count, the nearest at count 0
  pub pick_one-chosen : (s : ℕ) (picked : List ℕ) → length picked < length front
      → Chosen line distance (niche_count line (before ++ picked)) (waiting front picked) (pick_one line distance lines before front picked s).value
  unfolding pick_one
  pick_one-chosen s picked h =
      let w = some-waits front picked split.distinct h in
      chosen line distance lines (niche_count line (before ++ picked)) (waiting front picked)
      (λ p m. split.inside p (in_waiting front picked p m).member) s w.0 (waiting_in front picked w.0 w.1)

  -- it is on the line that the pick draws, so that the count which the pick finds is that of its line
  pub count-at_pick : (s : ℕ) (picked : List ℕ) → length picked < length front
      → count_at_pick line lines before front picked s ≡ niche_count line (before ++ picked) (line (pick_one line distance lines before front picked s).value)
  unfolding pick_one count_at_pick
  count-at_pick s picked h =
      let w = some-waits front picked split.distinct h in
      ap (niche_count line (before ++ picked))
      (sym (chosen-line line distance lines (niche_count line (before ++ picked)) (waiting front picked)
      (λ p m. split.inside p (in_waiting front picked p m).member) s w.0 (waiting_in front picked w.0 w.1)))

  pick_of : (picked : List ℕ) (p : ℕ) → Chosen line distance (niche_count line (before ++ picked)) (waiting front picked) p → Pick before front line picked p
  pick_of picked p c =
      record {
        waits = in_waiting front picked p c.listed;
        least = λ l t. rw t.on_line at (c.least t.plan (waiting_in front picked t.plan t.waits));
      }

  -- with no more open places than the front has plans, `picks` is a run
  picks_run : (n s : ℕ) → n ≤ length front → Run before front line n (picks line distance lines before front n s).value
  picks_run n s h =
      (draw_all-keeps (λ place picked. pick_one line distance lines before front picked) (λ k picked. Run before front line k picked) s n start
      (λ k picked t u e r. next r (pick_of picked _ (pick_one-chosen t picked (omega arith))))).1

  -- so it meets demand 3
  pub picks-niched : (n s : ℕ) → n ≤ length front → Niched before front line lines n (picks line distance lines before front n s).value
  picks-niched n s h = run_niched split (picks_run n s h)
