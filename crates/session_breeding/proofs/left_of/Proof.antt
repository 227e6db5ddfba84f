-- by the window
use Rattle.std.proofs.Common.{replicate, sym, length-take-le, rules}
use lib.Ieee.{div, of_bits}
use Rattle.model.specs.Plan.{max_objectives}
use Rattle.model.specs.Real.{infinity}
use Rattle.session_laws.proofs.Window.{objectives-few}
use Rattle.session_breeding.proofs.Lines.{put_ready, left_without, left_with}
use Rattle.session_breeding.proofs.left_of.Statement.{statement}
use Rattle.session_breeding.proofs.left_of.Tie as tie

enum_told : tie.Need-enum_told-1
enum_told c = search rules

enum-told-2 : tie.Need-enum_told-in_default
enum-told-2 c = search rules

returns : tie.Need-returns-in_default
returns c = left_without c.args.session _ _ c.args.lines.now c.in_default.is

array-share-prefix-directions : tie.Need-slice_bounds-directions-end
array-share-prefix-directions c = search rules

slice-aggregate-put-least : tie.Need-slice_bounds-put_least-end
slice-aggregate-put-least c = sym (length-take-le _ _ c.requires.sound.config.objectives)

slice-aggregate-put-least-2 : tie.Need-slice_bounds-put_least-end-2
slice-aggregate-put-least-2 c = search rules

put-least-requires : tie.Need-put_least-requires
put-least-requires c κs =
    let s = c in put_ready _ _ _ s.requires s.args.session.ideal_point s.requires.sound.ideal

array-share-prefix-directions-2 : tie.Need-slice_bounds-directions-end-2
array-share-prefix-directions-2 c = search rules

slice-aggregate-put-least-3 : tie.Need-slice_bounds-put_least-end-3
slice-aggregate-put-least-3 c = sym (length-take-le _ _ c.requires.sound.config.objectives)

slice-aggregate-put-least-4 : tie.Need-slice_bounds-put_least-end-4
slice-aggregate-put-least-4 c = search rules

put-least-requires-2 : tie.Need-put_least-requires-2
put-least-requires-2 c κs = let s = c in put_ready _ _ _ s.requires (replicate max_objectives infinity) (objectives-few _ s.requires.sound.config)

returns-2 : tie.Need-returns
unfolding div of_bits
returns-2 c = left_with c.args.session c.args.pool.now c.args.lines.now c.args.chosen _ _ _ c.in-Some.is c.put_least.ensures c.put_least-2.ensures

pub left_of_spec : {M : Type 1} → statement M
left_of_spec =
    tie.close
    (tie.spec
    enum_told
    enum-told-2
    returns
    array-share-prefix-directions
    slice-aggregate-put-least
    slice-aggregate-put-least-2
    put-least-requires
    array-share-prefix-directions-2
    slice-aggregate-put-least-3
    slice-aggregate-put-least-4
    put-least-requires-2
    returns-2)
