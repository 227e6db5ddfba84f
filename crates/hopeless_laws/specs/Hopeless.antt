-- Document 02, M-112: "Then two accepted pools that differ only in the rows of infeasible plans, with equal directions, lines, generator state, starting ideal and
-- size, and a feasible split front, yield the same kept list, rules and draws."
use Rattle.std.specs.Prelude.{ℕ, ◌<◌, ◌≡◌, true}
use Rattle.model.specs.declared.Edition.TheVariants.{Second}
use Rattle.model.specs.Lists.{In}
use Rattle.model.specs.Association.{Request, feasible_plan}
use Rattle.model.specs.Kept.{is_split, split_front}

-- the premises: two requests of edition 2, r and s. That of the split front is asked of r alone: s has the same (`front_same`, proofs/Hopeless.antt).
pub record HopelessRows (r s : Request) : Type 0 where
  pub edition : r.edition ≡ Second
  pub same_edition : s.edition ≡ Second
  -- "with equal directions, lines, generator state, starting ideal and size"
  pub directions : s.marks ≡ r.marks
  pub lines : s.divisions ≡ r.divisions
  pub state : s.state ≡ r.state
  pub ideal : s.ideal ≡ r.ideal
  pub size : s.size ≡ r.size
  -- "two .. pools that differ only in the rows of infeasible plans"
  pub count : s.count ≡ r.count
  pub constraints : (p : ℕ) → p < r.count → (s.plans p).constraints ≡ (r.plans p).constraints
  pub rows : (p : ℕ) → p < r.count → feasible_plan r p ≡ true → (s.plans p).row ≡ (r.plans p).row
  -- "and a feasible split front"
  pub split : is_split r ≡ true
  pub feasible : (p : ℕ) → In p (split_front r) → feasible_plan r p ≡ true
