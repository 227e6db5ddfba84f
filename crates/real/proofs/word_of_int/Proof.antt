-- From zero up twice the number; below, twice what is left of -1, and one.
use Rattle.std.proofs.Common.{◌≡◌, ℤ, pos, sym, ap, ◌∙◌, arith, w64, to_z, of_z}
use lib.Signed.{le_z}
use mir.ValLaws.{to_z_pos, to_z-of_z}
use Rattle.real_laws.proofs.Ints.{Up, up, Down, down}
use Rattle.real.proofs.word_of_int.Statement.{statement}
use Rattle.real.proofs.word_of_int.Tie as tie

read : (c : tie.Start) → to_z w64 (of_z w64 c.args.n) ≡ c.args.n
read c = to_z-of_z w64 c.args.n c.ranges.n

-- what each way of the test knows
from : (c : tie.Then-n-ge0) → Up c.args.n
from c = let s = c.before in up s.args.n s.ranges.n (sym (ap (λ (z : ℤ). le_z (pos 0) z) (read s)) ∙ c.if-n-ge0.true)

below : (c : tie.Else-n-ge0) → Down c.args.n
below c = let s = c.before in down s.args.n s.ranges.n (sym (ap (λ (z : ℤ). le_z (pos 0) z) (read s)) ∙ c.if-n-ge0.false)

cast-result : tie.Need-overflow_cast-result
cast-result c = rw (read c.before) ((from c).from, (from c).fits)

mul-result : tie.Need-overflow_mul-result
mul-result c = rw (read c.before) (from c).twice

sub-result : tie.Need-overflow_sub-result
sub-result c = rw (read c.before, (below c).is) (record { sfits = (below c).small })

back : (c : tie.Else-n-ge0) → to_z w64 (below c).some ≡ pos (below c).some
back c = to_z_pos w64 (below c).some (below c).small

cast-result-2 : tie.Need-overflow_cast-result-else-n-ge0
cast-result-2 c = rw (read c.before, (below c).is, back c) (tt, record { fits = let h = (below c).small in omega arith })

mul-result-2 : tie.Need-overflow_mul-result-else-n-ge0
mul-result-2 c = rw (read c.before, (below c).is, back c) (record { fits = let h = (below c).small in omega arith })

add-result : tie.Need-overflow_add-result
add-result c = rw (read c.before, (below c).is, back c) (record { fits = let h = (below c).small in omega arith })

returns : tie.Need-returns-then-n-ge0
returns c = rw (read c.before) (from c).is

returns-2 : tie.Need-returns-else-n-ge0
returns-2 c = rw (read c.before, (below c).is, back c) (below c).word

pub word_of_int_spec : {M : Type 1} → statement M
word_of_int_spec =
    tie.close
    (tie.spec
    cast-result
    mul-result
    sub-result
    cast-result-2
    mul-result-2
    add-result
    returns
    returns-2)
