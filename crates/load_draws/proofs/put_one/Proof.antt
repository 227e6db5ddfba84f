-- `put_one`: the draw, its word, and the word's form.
use borrow.Author.Rules.{rules}
use Rattle.load_draws.proofs.Drawing.{draws_one}
use Rattle.load_draws.proofs.put_one.Statement.{statement}
use Rattle.load_draws.proofs.put_one.Tie as tie

draw-one-requires : tie.Need-draw_one-d-requires
draw-one-requires c κs = tt

word-of-real-requires : tie.Need-word_of_real-requires
word-of-real-requires c κs = tt

put-word-requires : tie.Need-put_word-at-requires
put-word-requires c κs = tt

same_length : tie.Need-shape_of-out
same_length c = search rules

returns : tie.Need-returns
returns c =
    let p = c in
    let w = c in
    let d = c in
    draws_one _ _ _ _ _ _ _ _ d.draw_one-d.ensures w.word_of_real.ensures p.put_word-at.ensures

pub put_one_spec : {M : Type 1} → statement M
put_one_spec =
    tie.close
    (tie.spec draw-one-requires word-of-real-requires put-word-requires same_length returns)
