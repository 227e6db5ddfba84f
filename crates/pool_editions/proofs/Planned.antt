-- Plans read one after the other, each into its block: one more, and none.
use Prim.Native.Nat.{ℕ, ◌+◌, ◌*◌, ◌<◌}
use mathlib.Core.Path.{◌≡◌, ap, sym, ◌∙◌}
use mathlib.Core.Bool.{Bool}
use mathlib.Core.Logic.{inl}
use mathlib.Core.List.{List, [], ◌∷◌, ◌++◌}
use Rattle.std.specs.Prelude.{None, Some}
use native.Mathlib.Omega.{arith}
use lib.ListN.{length, get_or, drop}
use Rattle.model.specs.Plan.{Plan, plan_from, plan_at, plan_words}
use Rattle.model.specs.PoolFile.{many, no_plan}
use Rattle.model.specs.declared.Edition.TheVariants.{First}
use Rattle.model.specs.Edition.{most_plans}
use Rattle.list_laws.proofs.Built.{snoc_each}
use Rattle.list_laws.proofs.Rows.{row_inside}
use Rattle.pool_plans.specs.Blocks.{Block, Blocks, roomed}
use Rattle.pool_plans.proofs.Storing.{reads_none, reads-count, reads_more, reads_stop}
use Rattle.pool_plans.proofs.Blocks.{plan_of-same}
use Rattle.pool_editions.specs.Editions.{plan_in, EntryIs, Plans}

-- the plan stored last, and those before it
blocks_more : (i base : ℕ) (l o : List ℕ) (plans : List Plan) (held : Plan) → length plans ≡ i → (i < most_plans First → base ≡ i * plan_words) → Blocks i l plans
    → Block base l o held → Blocks (i + 1) o (plans ++ (held ∷ []))
blocks_more i base l o plans held sized place w b h t u =
    let e = place (omega arith) in
    snoc_each plans held no_plan i sized (λ k x. plan_at o k ≡ roomed x)
    (λ k v. let s = row_inside k i plan_words v in
    plan_of-same (λ j. get_or o (k * plan_words + j) 0) (λ j. get_or l (k * plan_words + j) 0) (λ j y. b.others (k * plan_words + j) (inl (omega arith)))
    ∙ w (omega arith) k v)
    (ap (plan_from o) (sym e) ∙ b.stored) t (omega arith)

module _ (second : Bool) (file : List ℕ) (at m : ℕ) where
  pub plans_none : (o : List ℕ) → Plans second file at m 0 o at
  plans_none o = reads_none (plan_in second m) file at (Blocks 0 o) (λ h p l. absurd (omega arith))

  module _ (l : List ℕ) (i p : ℕ) (w : Plans second file at m i l p) where
    pub plans_stop : (n : ℕ) → i < n → plan_in second m (drop p file) ≡ None → many n (plan_in second m) (drop at file) ≡ None
    plans_stop n h e = reads_stop (plan_in second m) file at (Blocks i l) i p w n h e

    pub plans-more : (base : ℕ) (o : List ℕ) (next : ℕ) → (i < most_plans First → base ≡ i * plan_words) → EntryIs second file p m base l o (Some next)
        → Plans second file at m (i + 1) o next
    plans-more base o next place k =
        reads_more (plan_in second m) file at (Blocks i l) i p w k.value next k.reads (Blocks (i + 1) o)
        (blocks_more i base l o w.value k.value (reads-count (plan_in second m) file at (Blocks i l) i p w) place w.stored k.stored)
