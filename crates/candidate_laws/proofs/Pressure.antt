-- THEOREM (document 02, M-101): in edition 2 no infeasible plan wins a tournament against a feasible one.
use Prim.Native.Nat.{ℕ, ◌≤◌, ◌<◌}
use mathlib.Core.Path.{◌≡◌, ap, sym, subst}
use mathlib.Core.Bool.{Bool, true, false, cond, ◌||◌}
use mathlib.Core.List.{List}
use Rattle.std.specs.Prelude.{None}
use native.Mathlib.Omega.{arith}
use borrow.Author.Tests.{leb-true, leb-false}
use lib.Dec.{leb}
use lib.ListN.{length, get_or}
use Rattle.model.specs.declared.Edition.{Edition}
use Rattle.model.specs.declared.Edition.TheVariants.{Second}
use Rattle.model.specs.declared.Distribution.{Distribution}
use Rattle.model.specs.Edition.{ranks_by_rows}
use Rattle.model.specs.Row.{row_beats}
use Rattle.model.specs.Front.{front_of}
use Rattle.model.specs.Draw.{draw_usize}
use Rattle.model.specs.Plan.{plan_at, plan_count}
use Rattle.model.specs.Association.{Request, dominance}
use Rattle.model.specs.Kept.{selected}
use Rattle.model.specs.Setting.{Operators, tournament, rank_of}
use Rattle.model.specs.Session.{State, breeds, request_of}
use Rattle.model.specs.Property.{SessionOk}
use Rattle.model.specs.Refusal.{Room, bad_pool, step_refusal, sample_refusal}
use Rattle.list_laws.proofs.Bools.{by_bool, by_cond}
use Rattle.rng_util.proofs.Draws.{draw_usize-below}
use Rattle.front_laws.proofs.Plans.{InWords}
use Rattle.demand3_laws.specs.Facts.{Accepted}
use Rattle.demand3_laws.proofs.Passed.{passed, size-limits, sample_passed}
use Rattle.demand3_laws.proofs.Fronts.{feasible-before}
use Rattle.demand3_laws.proofs.Accepted.{dominance_strict}
use Rattle.demand3_laws.proofs.Calls.{step-accepted, request-accepted}
use Rattle.candidate_laws.specs.Pressure.{feasible_at, RespectsPressure}
use Rattle.candidate_laws.proofs.KeptPlans.{kept-length, kept-below}

-- of two places the one of smaller rank wins, the first on a tie: where every place that passes has a smaller rank than one that does not, the winner passes
-- exactly if one of the two does
winner-passes : (rank : ℕ → ℕ) (passes : ℕ → Bool) (a b : ℕ) → (passes a ≡ true → passes b ≡ false → rank a < rank b)
    → (passes b ≡ true → passes a ≡ false → rank b < rank a) → passes (cond (leb (rank a) (rank b)) a b) ≡ (passes a || passes b)
winner-passes rank passes a b ab ba =
    by_cond (λ w. passes w ≡ (passes a || passes b)) (leb (rank a) (rank b)) a b
    (λ le. by_bool (passes a) (λ y. rw y)
    (λ n. by_bool (passes b) (λ y. absurd (omega (arith, leb-true (rank a) (rank b) le, ba y n))) (λ m. rw (n, m))))
    (λ gt. by_bool (passes a) (λ y. by_bool (passes b) (λ z. rw (y, z)) (λ n. absurd (omega (arith, leb-false (rank a) (rank b) gt, ab y n)))) (λ n. rw n))

module _ (r : Request) (accepted : Accepted r) (second : r.edition ≡ Second) (some : 0 < r.count) (wanted : 0 < r.size) where
  abbrev kept : List ℕ
  kept = (selected r).kept

  -- a rank of edition 2 is the front under the constraint rule
  rank-front : (i : ℕ) → rank_of r kept i ≡ front_of (dominance r) r.count (get_or kept i 0)
  unfolding rank_of
  rank-front i =
      ap (λ (e : Edition). front_of (cond (ranks_by_rows e) (row_beats r.marks r.plans) (dominance r)) r.count (get_or kept i 0)) second

  smaller-rank : (i j : ℕ) → i < length kept → j < length kept → feasible_at r kept i ≡ true → feasible_at r kept j ≡ false → rank_of r kept i < rank_of r kept j
  smaller-rank i j hi hj f g =
      omega (
        arith,
        rank-front i,
        rank-front j,
        feasible-before r (dominance_strict r accepted) (get_or kept i 0) (get_or kept j 0) (kept-below r some i hi) (kept-below r some j hj) f g,
      )

  pub respects_pressure : RespectsPressure r (selected r).kept
  unfolding tournament
  respects_pressure = record {
    smaller = smaller-rank;
    winner = λ s.
        let n = length kept in
        let any : 0 < n = omega (arith, kept-length r, wanted) in
        let a = draw_usize n s in
        let b = draw_usize n a.state in
        let la = draw_usize-below n s any in
        let lb = draw_usize-below n a.state any in
        winner-passes (rank_of r kept) (feasible_at r kept) a.value b.value (smaller-rank a.value b.value la lb) (smaller-rank b.value a.value lb la);
  }

-- of every generation step of edition 2 that is not refused and selects, whatever words its plans lie in
pub step_respects_pressure : (r : Request) → ((p : ℕ) → InWords (r.plans p)) → r.edition ≡ Second → (o : Operators) (room : Room) (offspring : ℕ)
    → step_refusal o r room offspring ≡ None → 2 ≤ r.count → RespectsPressure r (selected r).kept
step_respects_pressure r words second o room offspring e two =
    respects_pressure r (step-accepted r words o room offspring e) second (omega arith) (size-limits r.size (passed o r room offspring e).size).0

-- and of every session call of edition 2 that breeds, from at least as many plans as the size
pub sample_respects_pressure : (st : State) (d : Distribution) (plan : ℕ) (history : List ℕ) → SessionOk st → sample_refusal st d plan history ≡ None
    → breeds st history ≡ true → st.session.config.edition ≡ Second → (request_of st history).size ≤ (request_of st history).count
    → RespectsPressure (request_of st history) (selected (request_of st history)).kept
sample_respects_pressure st d plan history ok e bred second enough =
    let pool : bad_pool (request_of st history) ≡ false = rw bred at (sample_passed st d plan history e).pool in
    let four = ok.config.at_least4 in
    respects_pressure (request_of st history) (request-accepted st history ok pool) second (omega arith) (omega arith)
