-- `choose_words`: the selection's answer, and the listing of what it hands out
use Prim.Native.Nat.{ℕ, ◌≤◌}
use mathlib.Core.Path.{◌≡◌, refl, ap₂, sym, ◌∙◌, subst}
use mathlib.Core.List.{List}
use lib.Ieee.{Float}
use lib.ListN.{length, take, replicate, length-replicate}
use lib.Seq.{length-take-le}
use native.Mathlib.Omega.{arith}
use borrow.Author.Rules.{rules}
use Rattle.model.specs.declared.Edition.TheVariants.{First}
use Rattle.model.specs.declared.Rng.{Rng}
use Rattle.model.specs.declared.Selection.{Selection}
use Rattle.model.specs.Edition.{most_plans}
use Rattle.model.specs.Real.{infinity}
use Rattle.model.specs.Association.{Request}
use Rattle.model.specs.PoolFile.{listing_text}
use Rattle.model.specs.Refusal.{Room, max_size}
use Rattle.model.specs.Calls.{Lent, lent, room_of, SelectExit, select_exit, Selects, word_request}
use Rattle.pool_laws.specs.Text.{listed}
use Rattle.pool_laws.specs.Choice.{roomy, text_exit}
use Rattle.pool_laws.proofs.Words.{ideal-start, refused-exit, few-kept, few-plans, text-short, listed-exit}
use Rattle.pool_choice.proofs.choose_words.Goals as goal

abbrev zeros : Lent
zeros = lent (replicate max_size 0) (replicate max_size 0) (replicate (most_plans First) 0) (replicate (most_plans First) 0)

abbrev room : ℕ → ℕ → Room
room size count = record { kept = size; rules = size; fronts = count; lines = count }

roomed : room_of zeros ≡ roomy
roomed = ap₂ room (length-replicate {A = ℕ} max_size 0) (length-replicate {A = ℕ} (most_plans First) 0)

-- what is asked, from an ideal
abbrev asked : List ℕ → List ℕ → ℕ → ℕ → Rng → List Float → Request
asked pool directions divisions size rng ideal = word_request First pool directions divisions size rng ideal

-- what the selection leaves
abbrev left : Selection → List Float → List ℕ → List ℕ → List ℕ → List ℕ → SelectExit
left answer ideal kept rules fronts lines = select_exit answer ideal (lent kept rules fronts lines)

pub slice_bounds-kept-end : goal.slice_bounds-kept-end
slice_bounds-kept-end c =
    let a = c.args in
    let f = c.nsga3_select-selection in
    let p : Selects (asked a.pool.now a.directions.now a.divisions a.size a.rng (replicate (length a.directions.now) infinity)) zeros (left f.result f.new.ideal f.new.kept f.new.rules f.new.fronts f.new.lines) =
    subst (λ (i : List Float). Selects (asked a.pool.now a.directions.now a.divisions a.size a.rng i) zeros (left f.result f.new.ideal f.new.kept f.new.rules f.new.fronts f.new.lines)) (ideal-start (length a.directions.now) c.requires) f.ensures in
    let few : c.in-Ok.n ≤ max_size = few-kept p roomed refl c.in-Ok.is in
    omega (arith, few)

pub slice_bounds-put_listing-end : goal.slice_bounds-put_listing-end
slice_bounds-put_listing-end c =
    let a = c.args in
    let f = c.nsga3_select-selection in
    let p : Selects (asked a.pool.now a.directions.now a.divisions a.size a.rng (replicate (length a.directions.now) infinity)) zeros (left f.result f.new.ideal f.new.kept f.new.rules f.new.fronts f.new.lines) =
    subst (λ (i : List Float). Selects (asked a.pool.now a.directions.now a.divisions a.size a.rng i) zeros (left f.result f.new.ideal f.new.kept f.new.rules f.new.fronts f.new.lines)) (ideal-start (length a.directions.now) c.requires) f.ensures in
    let few : c.in-Ok.n ≤ max_size = few-kept p roomed refl c.in-Ok.is in
    sym (length-take-le _ c.nsga3_select-selection.new.kept (omega (arith, few, c.nsga3_select-selection.auto.kept)))

pub put_listing-requires-clause-count_bound : goal.put_listing-requires-clause-count_bound
put_listing-requires-clause-count_bound c =
    let a = c.args in
    let f = c.nsga3_select-selection in
    let p : Selects (asked a.pool.now a.directions.now a.divisions a.size a.rng (replicate (length a.directions.now) infinity)) zeros (left f.result f.new.ideal f.new.kept f.new.rules f.new.fronts f.new.lines) =
    subst (λ (i : List Float). Selects (asked a.pool.now a.directions.now a.divisions a.size a.rng i) zeros (left f.result f.new.ideal f.new.kept f.new.rules f.new.fronts f.new.lines)) (ideal-start (length a.directions.now) c.requires) f.ensures in
    let few = few-plans p roomed refl c.in-Ok.is in (
      omega (arith, few, c.plan_count.ensures),
      omega (arith, few, c.plan_count.ensures, c.nsga3_select-selection.auto.fronts),
      omega (arith, few, c.plan_count.ensures, c.nsga3_select-selection.auto.lines),
    )

pub put_listing-requires-clause-lines_len_bound : goal.put_listing-requires-clause-lines_len_bound
put_listing-requires-clause-lines_len_bound c =
    let a = c.args in
    let f = c.nsga3_select-selection in
    let p : Selects (asked a.pool.now a.directions.now a.divisions a.size a.rng (replicate (length a.directions.now) infinity)) zeros (left f.result f.new.ideal f.new.kept f.new.rules f.new.fronts f.new.lines) =
    subst (λ (i : List Float). Selects (asked a.pool.now a.directions.now a.divisions a.size a.rng i) zeros (left f.result f.new.ideal f.new.kept f.new.rules f.new.fronts f.new.lines)) (ideal-start (length a.directions.now) c.requires) f.ensures in
    let few = few-plans p roomed refl c.in-Ok.is in rw c.plan_count.ensures (text-short p roomed refl c.in-Ok.is)

pub returns-in-Err : goal.returns-in-Err
returns-in-Err c =
    let a = c.args in
    let f = c.nsga3_select-selection in
    let p : Selects (asked a.pool.now a.directions.now a.divisions a.size a.rng (replicate (length a.directions.now) infinity)) zeros (left f.result f.new.ideal f.new.kept f.new.rules f.new.fronts f.new.lines) =
    subst (λ (i : List Float). Selects (asked a.pool.now a.directions.now a.divisions a.size a.rng i) zeros (left f.result f.new.ideal f.new.kept f.new.rules f.new.fronts f.new.lines)) (ideal-start (length a.directions.now) c.requires) f.ensures in
    refused-exit p roomed c.in-Err.refusal c.args.out.now c.in-Err.is

pub returns-in-Ok : goal.returns-in-Ok
returns-in-Ok c =
    let a = c.args in
    let f = c.nsga3_select-selection in
    let p : Selects (asked a.pool.now a.directions.now a.divisions a.size a.rng (replicate (length a.directions.now) infinity)) zeros (left f.result f.new.ideal f.new.kept f.new.rules f.new.fronts f.new.lines) =
    subst (λ (i : List Float). Selects (asked a.pool.now a.directions.now a.divisions a.size a.rng i) zeros (left f.result f.new.ideal f.new.kept f.new.rules f.new.fronts f.new.lines)) (ideal-start (length a.directions.now) c.requires) f.ensures in
    let out = c.args.out.now in
    let text = listing_text c.plan_count.result (listed (take c.in-Ok.n f.new.kept) f.new.fronts f.new.lines) in
    ◌∙◌ {b = text_exit text out} c.put_listing.ensures (listed-exit p roomed refl c.in-Ok.is out c.plan_count.result c.plan_count.ensures)
