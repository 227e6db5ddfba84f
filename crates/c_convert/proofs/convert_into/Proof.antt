-- `convert_into`: the converted file handed out, or the refusal
use mathlib.Core.Path.{sym}
use borrow.Author.Rules.{rules}
use lib.Seq.{length-take-le}
use Rattle.c_convert.proofs.Coding.{into_refused, within, into_written}
use Rattle.c_convert.proofs.convert_into.Statement.{statement}
use Rattle.c_convert.proofs.convert_into.Tie as tie

convert-requires : tie.Need-convert-converted-requires
convert-requires c κs = search rules

enum-known-converted : tie.Need-enum_known-converted
enum-known-converted c = search rules

array-share-prefix-text : tie.Need-slice_bounds-text-end
array-share-prefix-text c =
    let k = c in
    let u = c in
    let a = u.args in
    within a.file.now a.out.now _ _ u.convert-converted.ensures k.in-Ok.n k.in-Ok.is

slice-aggregate-hand-out : tie.Need-slice_bounds-hand_out-end
slice-aggregate-hand-out c =
    let k = c in
    let u = c in
    let a = u.args in
    sym (length-take-le k.in-Ok.n u.convert-converted.new.out
    (within a.file.now a.out.now _ _ u.convert-converted.ensures k.in-Ok.n k.in-Ok.is))

hand-out-requires : tie.Need-hand_out-requires
hand-out-requires c κs = search rules

enum-known-converted-2 : tie.Need-enum_known-converted-in-Err-1
enum-known-converted-2 c = search rules

same_length : tie.Need-shape_of-out
same_length c = search rules

returns : tie.Need-returns-in-Ok
returns c =
    let h = c in
    let k = c in
    let u = c in
    let a = u.args in
    into_written a.file.now a.out.now _ _ u.convert-converted.ensures k.in-Ok.n k.in-Ok.is _ h.hand_out.ensures

returns-2 : tie.Need-returns-in-Err
returns-2 c =
    let k = c in
    let u = c in
    let a = u.args in
    into_refused a.file.now a.out.now _ _ u.convert-converted.ensures k.in-Err.refusal k.in-Err.is

pub convert_into_spec : {M : Type 1} → statement M
convert_into_spec =
    tie.close
    (tie.spec
    convert-requires
    enum-known-converted
    array-share-prefix-text
    slice-aggregate-hand-out
    hand-out-requires
    enum-known-converted-2
    same_length
    returns
    returns-2)
