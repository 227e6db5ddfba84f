-- `write_text`: the header with the state after the last draw, and the plans.
use borrow.Author.Rules.{rules}
use Rattle.load_numbers.specs.Asking.{load_from}
use Rattle.load_text.proofs.Whole.{whole}
use Rattle.load_text.proofs.write_text.Statement.{statement}
use Rattle.load_text.proofs.write_text.Tie as tie

jump-requires : tie.Need-jump-start-requires
jump-requires c κs = tt

last-state-requires : tie.Need-last_state-seed-requires
last-state-requires c κs = c.requires

put-header-requires : tie.Need-put_header-at-requires
put-header-requires c κs = tt

put-plans-requires : tie.Need-put_plans-end-requires
put-plans-requires c κs = tt

same_length : tie.Need-shape_of-out
same_length c = search rules

returns : tie.Need-returns
returns c =
    let z = c in
    let h = c in
    let e = c in
    let j = c in
    whole (load_from j.args.load) _ _ j.jump-start.ensures e.last_state-seed.ensures _ _ _ _ _ _ h.put_header-at.ensures z.put_plans-end.ensures

pub write_text_spec : {M : Type 1} → statement M
write_text_spec =
    tie.close
    (tie.spec
    jump-requires
    last-state-requires
    put-header-requires
    put-plans-requires
    same_length
    returns)
