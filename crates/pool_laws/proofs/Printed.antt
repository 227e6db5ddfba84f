-- The listing of a selection that is accepted is at most `max_text` bytes long, so a slice of that length has room for it.
use Prim.Native.Nat.{ℕ, ◌≤◌, ◌<◌}
use mathlib.Core.Path.{◌≡◌, ap, ◌∙◌}
use mathlib.Core.Bool.{Bool, cond}
use mathlib.Core.Logic.{◌⊎◌, inl, inr}
use native.Mathlib.Omega.{arith}
use lib.ListN.{length, get_or, get_or-replicate}
use Rattle.model.specs.Lists.{has, list_below}
use Rattle.model.specs.declared.Edition.TheVariants.{First}
use Rattle.model.specs.Edition.{most_plans}
use Rattle.model.specs.Front.{front, front_of, front_list}
use Rattle.model.specs.Association.{Request, line_count, dominance, shapes, line_of}
use Rattle.model.specs.Kept.{selected, selected_split, selected_whole, without_line, line_mark}
use Rattle.model.specs.PoolFile.{request_text}
use Rattle.model.specs.Refusal.{max_size, max_lines}
use Rattle.model.specs.Calls.{max_text, Listable}
use Rattle.list_laws.proofs.Bools.{by_bool}
use Rattle.list_laws.proofs.First.{first_below_le}
use Rattle.list_laws.proofs.Built.{list_below-at}
use Rattle.niching_laws.proofs.Association.{line_of-inside}
use Rattle.niching_laws.proofs.KeptLength.{kept-length, by-split, fronts-all}
use Rattle.pool_laws.proofs.Lengths.{listing-short}

front_le : (d : ℕ → ℕ → Bool) (n p : ℕ) → p < n → get_or (front_list d n) p 0 ≤ n
unfolding front_list front_of
front_le d n p h = rw (list_below-at (front_of d n) n 0 p h) (first_below_le (λ k. has (front d n k) p) n)

-- ---- the numbers of a selection are small

module _ (r : Request) (size : r.size ≤ max_size) (count : r.count ≤ most_plans First) (some : 0 < line_count r) (lines : line_count r ≤ max_lines) where
  fronts_small : (p : ℕ) → p < r.count → get_or (selected r).fronts p 0 ≤ most_plans First
  fronts_small p h = omega (arith, ap (λ l. get_or l p 0) (fronts-all r), front_le (dominance r) r.count p h)

  mark_small : (p : ℕ) → p < r.count → (get_or (list_below (line_mark r) r.count) p 0 ≤ max_lines) ⊎ (get_or (list_below (line_mark r) r.count) p 0 ≡ without_line)
  mark_small p h =
      let at = list_below-at (line_mark r) r.count 0 p h in
      by_bool (shapes r p)
      (λ e. inl (omega (arith, at ∙ ap (λ b. cond b (line_of r p) without_line) e, line_of-inside r p some)))
      (λ e. inr (at ∙ ap (λ b. cond b (line_of r p) without_line) e))

  lines_small : (p : ℕ) → p < r.count → (get_or (selected r).lines p 0 ≤ max_lines) ⊎ (get_or (selected r).lines p 0 ≡ without_line)
  unfolding selected_split selected_whole
  lines_small p h =
      by-split r (λ s. (get_or s.lines p 0 ≤ max_lines) ⊎ (get_or s.lines p 0 ≡ without_line))
      (mark_small p h)
      (inr (get_or-replicate r.count p without_line 0 h))

  pub selected_listable : Listable r.count (selected r)
  selected_listable = record { plans = count; kept = omega (arith, kept-length r); fronts = fronts_small; lines = lines_small }

  pub selected-short : length (request_text r) ≤ max_text
  selected-short = listing-short r.count (selected r) selected_listable
