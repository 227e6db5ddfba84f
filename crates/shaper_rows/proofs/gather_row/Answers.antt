use Rattle.shaper_rows.proofs.Rows.{row_copied}
use Rattle.shaper_rows.proofs.gather_row.Goals as goal

pub returns : goal.returns
returns c = row_copied c.args.rows.now c.args.out.now c.args.m c.args.p c.args.i c.requires.0 c.requires.1 c.copy_from_slice.ensures.after
