-- `point_count`.
use Rattle.model.specs.Reference.{point_count}
use borrow.Author.Rules.{rules}
use Rattle.divisions.proofs.point_count.Statement.{statement}
use Rattle.divisions.proofs.point_count.Tie as tie

add-n-combinations : tie.Need-overflow_add-h
add-n-combinations c = search rules

sub-n-combinations : tie.Need-overflow_sub-h
sub-n-combinations c = search rules

sub-n-combinations-2 : tie.Need-overflow_sub-m
sub-n-combinations-2 c = search rules

n-combinations-requires : tie.Need-n_combinations-requires
n-combinations-requires c κs = search rules

returns : tie.Need-returns
unfolding point_count
returns c = c.n_combinations.ensures

pub point_count_spec : {M : Type 1} → statement M
point_count_spec =
    tie.close
    (tie.spec
    add-n-combinations
    sub-n-combinations
    sub-n-combinations-2
    n-combinations-requires
    returns)
