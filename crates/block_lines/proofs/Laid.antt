-- The search over a block finds what document 01 says of its plans, and block after block makes all of them.
use Prim.Native.Nat.{ℕ, ◌+◌, ◌≤◌, ◌<◌}
use mathlib.Core.Path.{◌≡◌, refl, ap, ◌∙◌}
use mathlib.Core.List.{List}
use native.Mathlib.Omega.{arith}
use lib.Ieee.{Float, nan}
use lib.ListN.{length, get_or, replicate, get_or-replicate}
use lib.Seq.{sets}
use Rattle.model.specs.declared.Edition.{Edition}
use Rattle.model.specs.Lists.{list_below, over}
use Rattle.model.specs.Real.{infinity}
use Rattle.model.specs.Association.{Near, nearest_of}
use Rattle.list_laws.specs.Rows.{flat_rows}
use Rattle.list_laws.proofs.Built.{list_below-length, list_below-same, list_below_join, over_run}
use Rattle.list_laws.proofs.Rows.{rows_at}
use Rattle.association_laws.specs.Flat.{row_at, nearest_at, NearestAll}
use Rattle.association_laws.specs.Search.{Found}
use Rattle.association_laws.proofs.Search.{found_none}
use Rattle.association_laws.proofs.Same.{nearest-same, distance-same}
use Rattle.columns.specs.Block.{laid, plan_at}
use Rattle.block_search.specs.Turn.{block_distance, FoundAll}
use Rattle.block_lines.specs.Blocks.{Handed, NearestBlock}

-- ---- a block

-- before the first line
pub start-found : (e : Edition) (d : ℕ → ℕ → Float) (len size : ℕ) → len ≤ size → FoundAll e d 0 len (replicate size 0) (replicate size infinity)
start-found e d len size h = record { at = here }
  where
    here : (b : ℕ) → b < len → Found e (d b) 0 (get_or (replicate size 0) b 0) (get_or (replicate size infinity) b nan)
    here b k = rw (get_or-replicate {A = ℕ} size b 0 0 (omega arith), get_or-replicate size b infinity nan (omega arith)) (found_none e (d b))

module _ (e : Edition) (points : List Float) (m start len : ℕ) (x x₀ table : List Float) (k : ℕ) (columns : x ≡ over (flat_rows (laid points m start) m len) x₀) where
  laid-nearest : (b : ℕ) → b < len → nearest_of (block_distance e x m len table b) k ≡ nearest_at e points m table k (start + b)
  laid-nearest b h =
      nearest-same _ _ k (λ l u. distance-same e m (plan_at x len b) (row_at points m (start + b)) (row_at table m l) (row_at table m l) (λ j v. rows_at (laid points m start) m len nan x x₀ j b columns v h) (λ j v. refl))

  pub block-handed : (near : List ℕ) (best : List Float) (lines₀ lines : List ℕ) (distances₀ distances : List Float) → FoundAll e (block_distance e x m len table) k len near best
      → Handed e near best start len lines₀ lines distances₀ distances → NearestBlock e points m table k start len lines₀ lines distances₀ distances
  block-handed near best lines₀ lines distances₀ distances f h = record {
    line = h.line ∙ ap (sets lines₀ start) (list_below-same _ _ len (λ b l. (f.at b l).nearest ∙ ap (λ (v : Near). v.line) (laid-nearest b l)));
    distance = h.distance ∙ ap (sets distances₀ start) (list_below-same _ _ len (λ b l. (f.at b l).measured ∙ ap (λ (v : Near). v.distance) (laid-nearest b l)));
  }

-- ---- block after block

module _ {A : Type 0} (f : ℕ → A) (n : ℕ) where
  run_after : (k : ℕ) (l₀ l l' : List A) → n + k ≤ length l₀ → l ≡ over (list_below f n) l₀ → l' ≡ sets l n (list_below (λ b. f (n + b)) k) → l' ≡ over (list_below f (n + k)) l₀
  run_after k l₀ l l' h e g =
      g ∙ ap (λ t. sets t n (list_below (λ b. f (n + b)) k)) e
      ∙ over_run (list_below f n) (list_below (λ b. f (n + b)) k) l₀ n (list_below-length f n) (omega (arith, list_below-length (λ b. f (n + b)) k))
      ∙ ap (λ t. over t l₀) (list_below_join f n k)

pub block-after : (e : Edition) (points : List Float) (m : ℕ) (table : List Float) (k start len : ℕ) (lines₀ lines lines' : List ℕ) (distances₀ distances distances' : List Float)
    → start + len ≤ length lines₀ → start + len ≤ length distances₀ → NearestAll e points m table k start lines₀ lines distances₀ distances
    → NearestBlock e points m table k start len lines lines' distances distances' → NearestAll e points m table k (start + len) lines₀ lines' distances₀ distances'
block-after e points m table k start len lines₀ lines lines' distances₀ distances distances' h g a b = record {
  line = run_after (λ p. (nearest_at e points m table k p).line) start len lines₀ lines lines' h a.line b.line;
  distance = run_after (λ p. (nearest_at e points m table k p).distance) start len distances₀ distances distances' g a.distance b.distance;
}
