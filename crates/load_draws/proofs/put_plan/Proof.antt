-- `put_plan`: the values, the number of constraints, the constraints.
use borrow.Author.Rules.{rules}
use Rattle.load_draws.proofs.Drawing.{draws_plan}
use Rattle.load_draws.proofs.put_plan.Statement.{statement}
use Rattle.load_draws.proofs.put_plan.Tie as tie

put-some-requires : tie.Need-put_some-row-requires
put-some-requires c κs = tt

put-word-requires : tie.Need-put_word-at-requires
put-word-requires c κs = tt

put-some-requires-2 : tie.Need-put_some-requires
put-some-requires-2 c κs = tt

same_length : tie.Need-shape_of-out
same_length c = search rules

returns : tie.Need-returns
returns c =
    let z = c in
    let w = c in
    let r = c in
    let a = r.args in
    draws_plan a.m a.c a.rng.s _ _ _ _ _ _ _ _ _ _ r.put_some-row.ensures w.put_word-at.ensures z.put_some.ensures

pub put_plan_spec : {M : Type 1} → statement M
put_plan_spec =
    tie.close
    (tie.spec put-some-requires put-word-requires put-some-requires-2 same_length returns)
