-- `choose`: the parser's answer by cases, and what the words ask for
use Prim.Native.Nat.{ℕ, ◌*◌}
use mathlib.Core.Path.{◌≡◌, sym, ◌∙◌}
use native.Mathlib.Nat.{le_of_eq}
use lib.ListN.{length, length-replicate}
use Rattle.model.specs.Plan.{plan_words}
use Rattle.model.specs.declared.Edition.TheVariants.{First}
use Rattle.model.specs.Edition.{most_plans}
use Rattle.pool_laws.proofs.Files.{broken-first, broken-second, many-objectives, chosen-words}
use Rattle.pool_choice.proofs.choose.Goals as goal

pub returns-then-opens_second : goal.returns-then-opens_second
returns-then-opens_second c =
    let a = c.args in
    broken-second a.file.now c.parse_pool.new.directions c.parse_pool.new.pool c.in_default.ensures a.out.now
    (sym c.opens_second.ensures ∙ c.if-opens_second.true)

pub returns-in_default : goal.returns-in_default
returns-in_default c =
    let a = c.args in
    broken-first a.file.now c.parse_pool.new.directions c.parse_pool.new.pool c.in_default.ensures a.out.now
    (sym c.opens_second.ensures ∙ c.if-opens_second.false)

pub returns-then-header : goal.returns-then-header
returns-then-header c =
    let a = c.args in
    many-objectives a.file.now c.parse_pool.new.directions c.parse_pool.new.pool c.in-Some.header c.in-Some.ensures
    a.out.now c.if-header.true

pub returns : goal.returns
returns c =
    let words-length-here : length c.parse_pool.new.pool ≡ most_plans First * plan_words = c.parse_pool.auto.pool ∙ length-replicate {A = ℕ} (most_plans First * plan_words) 0 in
    let a = c.args in
    chosen-words a.file.now c.parse_pool.new.directions c.parse_pool.new.pool c.in-Some.header c.in-Some.ensures
    a.out.now c.if-header.false (le_of_eq (sym words-length-here)) _ c.plans_stored-words.ensures.1 c.plans_stored-words.ensures.2 _ c.choose_words.ensures
