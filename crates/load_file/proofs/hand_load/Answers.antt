-- `hand_load`: the counts, the length, the room.
use mathlib.Core.Path.{sym, ◌∙◌}
use lib.Seq.{length-take-le}
use Rattle.load_numbers.specs.Asking.{load_from}
use Rattle.load_file.proofs.Filing.{bad-counts, limits, too_long, within, handed}
use Rattle.load_file.proofs.hand_load.Goals as goal

pub returns-then-bad_counts : goal.returns-then-bad_counts
returns-then-bad_counts c = bad-counts _ _ (sym c.bad_counts.ensures ∙ c.if-bad_counts.true)

pub write_text-n-requires : goal.write_text-n-requires
write_text-n-requires c = limits (load_from c.args.load) c.args.out.now (sym c.bad_counts.ensures ∙ c.if-bad_counts.false)

pub returns-then-n-gt-MAX_FILE : goal.returns-then-n-gt-MAX_FILE
returns-then-n-gt-MAX_FILE c =
    too_long (load_from c.args.load) c.args.out.now (sym c.bad_counts.ensures ∙ c.if-bad_counts.false) _ _ _ c.write_text-n.ensures c.requires c.if-n-gt-MAX_FILE.true

pub slice_bounds-hand_out-end-2 : goal.slice_bounds-hand_out-end-2
slice_bounds-hand_out-end-2 c =
    sym (length-take-le _ _ (within (load_from c.args.load) c.args.out.now (sym c.bad_counts.ensures ∙ c.if-bad_counts.false) _ _ _ c.write_text-n.ensures c.requires c.if-n-gt-MAX_FILE.false))

pub returns : goal.returns
returns c =
    handed (load_from c.args.load) c.args.out.now (sym c.bad_counts.ensures ∙ c.if-bad_counts.false) _ _ _ c.write_text-n.ensures c.requires c.if-n-gt-MAX_FILE.false _ c.hand_out.ensures
