-- `put_header`: five numbers, and the marks.
use borrow.Author.Rules.{rules}
use Rattle.load_text.proofs.Header.{number-first}
use Rattle.load_text.proofs.put_header.Statement.{statement}
use Rattle.load_text.proofs.put_header.Tie as tie

put-word-requires : tie.Need-put_word-a-requires
put-word-requires c κs = tt

put-word-requires-2 : tie.Need-put_word-b-requires
put-word-requires-2 c κs = tt

put-word-requires-3 : tie.Need-put_word-c-requires
put-word-requires-3 c κs = tt

put-word-requires-4 : tie.Need-put_word-d-requires
put-word-requires-4 c κs = tt

put-word-requires-5 : tie.Need-put_word-e-requires
put-word-requires-5 c κs = tt

put-marks-requires : tie.Need-put_marks-requires
put-marks-requires c κs = tt

same_length : tie.Need-shape_of-out
same_length c = search rules

returns : tie.Need-returns
returns c =
    let z = c in
    let w5 = c in
    let w4 = c in
    let w3 = c in
    let w2 = c in
    let w1 = c in
    number-first _ _ _ _ _ _ _ _ w1.put_word-a.ensures
    (number-first _ _ _ _ _ _ _ _ w2.put_word-b.ensures
    (number-first _ _ _ _ _ _ _ _ w3.put_word-c.ensures
    (number-first _ _ _ _ _ _ _ _ w4.put_word-d.ensures (number-first _ _ _ _ _ _ _ _ w5.put_word-e.ensures z.put_marks.ensures))))

pub put_header_spec : {M : Type 1} → statement M
put_header_spec =
    tie.close
    (tie.spec
    put-word-requires
    put-word-requires-2
    put-word-requires-3
    put-word-requires-4
    put-word-requires-5
    put-marks-requires
    same_length
    returns)
