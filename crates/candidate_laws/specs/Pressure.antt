-- Document 02, M-101, "Tournaments that respect pressure", as a statement about the tournaments among a kept list.
use Rattle.std.specs.Prelude.{ℕ, ◌<◌, ◌≡◌, Bool, true, false, ◌||◌, List, length, get_or}
use Rattle.model.specs.Row.{feasible}
use Rattle.model.specs.Draw.{draw_usize}
use Rattle.model.specs.Association.{Request}
use Rattle.model.specs.Setting.{tournament, rank_of}

-- the i-th kept plan is feasible
abbrev pub feasible_at : Request → List ℕ → ℕ → Bool
feasible_at r kept i = feasible (r.plans (get_or kept i 0)).constraints

-- ranks of feasible plans are smaller; and whoever is drawn first, the winner of a tournament is feasible exactly if one of the two drawn is, so that no
-- infeasible plan wins against a feasible one
pub record RespectsPressure (r : Request) (kept : List ℕ) : Type 0 where
  pub smaller : (i j : ℕ) → i < length kept → j < length kept → feasible_at r kept i ≡ true → feasible_at r kept j ≡ false → rank_of r kept i < rank_of r kept j
  pub winner : (s : ℕ)
      → let a = draw_usize (length kept) s in
      let b = draw_usize (length kept) a.state in
      feasible_at r kept (tournament (rank_of r kept) (length kept) s).value ≡ (feasible_at r kept a.value || feasible_at r kept b.value)
