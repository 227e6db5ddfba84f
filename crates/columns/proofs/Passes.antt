-- One pass over the block adds one term to each plan's sum; what the passes make together.
use Prim.Native.Nat.{ℕ, ◌+◌, ◌*◌, ◌≤◌, ◌<◌}
use mathlib.Core.Path.{◌≡◌, ap, sym, ◌∙◌}
use mathlib.Core.Bool.{false}
use mathlib.Core.List.{List}
use native.Mathlib.Omega.{arith}
use lib.Ieee.{Float, nan, lt}
use lib.ListN.{get_or}
use Rattle.model.specs.Lists.{list_below, over}
use Rattle.model.specs.Real.{◌⊕◌, ◌⊘◌, sum_to}
use Rattle.model.specs.Association.{dot, off_squares, squares_of, small_norm}
use Rattle.list_laws.proofs.Built.{over_below}
use Rattle.list_laws.proofs.Rows.{row_within}
use Rattle.float_laws.proofs.Sums.{sum_none, sum_more}
use Rattle.association_laws.proofs.Search.{squares_long}
use Rattle.columns.specs.Block.{plan_at, quotient, Each, Empty, Dots, OffSquares, LineSquares}

-- term j of plan b is f b j
module _ (f : ℕ → ℕ → Float) (len : ℕ) where
  pub pass_none : (l : List Float) → Empty len l → Each len l (λ b. sum_to (f b) 0)
  pass_none l e = record { at = λ b h. e.at b h ∙ sym (sum_none (f b)) }

  pub pass-more : (j : ℕ) (l k : List Float) → Each len l (λ b. sum_to (f b) j) → k ≡ over (list_below (λ b. get_or l b nan ⊕ f b j) len) l
      → Each len k (λ b. sum_to (f b) (j + 1))
  pass-more j l k s e = record { at = λ b h. over_below _ len k l b nan e h ∙ sum_more (f b) j (get_or l b nan) (s.at b h) }

-- the squares off the line, once each plan's p·r is divided by r·r
pub passes-square : (x : List Float) (m len : ℕ) (r : ℕ → Float) (norm : Float) (s t u : List Float) → norm ≡ dot m r r → lt norm small_norm ≡ false → Dots x m len r s
    → t ≡ over (list_below (quotient s norm) len) s → OffSquares x m len r t u → LineSquares x m len r u
passes-square x m len r norm s t u e k d q o = record { at = here }
  where
    here : (b : ℕ) → b < len → get_or u b nan ≡ squares_of m (plan_at x len b) r
    here b h =
        o.at b h ∙ ap (off_squares m (plan_at x len b) r) (over_below _ len t s b nan q h ∙ ap (λ v. v ⊘ norm) (d.at b h)) ∙ sym (squares_long m (plan_at x len b) r norm e k)

-- four terms at once
next : (f : ℕ → Float) (j n : ℕ) (s : Float) → j + 1 ≡ n → s ≡ sum_to f j → s ⊕ f j ≡ sum_to f n
next f j n s e h = sum_more f j s h ∙ ap (sum_to f) e

pub four-more : (f : ℕ → Float) (j : ℕ) (s : Float) → s ≡ sum_to f j → s ⊕ f j ⊕ f (j + 1) ⊕ f (j + 2) ⊕ f (j + 3) ≡ sum_to f (j + 4)
four-more f j s e = next f (j + 3) (j + 4) _ (omega arith) (next f (j + 2) (j + 3) _ (omega arith) (next f (j + 1) (j + 2) _ (omega arith) (sum_more f j s e)))

-- four columns lie within the block
pub four_columns : (j len size : ℕ) → (j + 1 + 1 + 1 + 1) * len ≤ size
    → (j * len + len ≤ size) × ((j + 1) * len + len ≤ size) × ((j + 1 + 1) * len + len ≤ size) × ((j + 1 + 1 + 1) * len + len ≤ size)
four_columns j len size h =
    let n = j + 1 + 1 + 1 + 1 in
    (row_within j n len size (omega arith) h, row_within (j + 1) n len size (omega arith) h, row_within (j + 1 + 1) n len size (omega arith) h, row_within (j + 1 + 1 + 1) n len size (omega arith) h)
