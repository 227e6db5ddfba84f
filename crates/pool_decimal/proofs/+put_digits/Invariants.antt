-- the digits that there is room for: one less at each call
use Rattle.pool_decimal.proofs.+put_digits.Given as goal

abbrev pub decreases-put_digits : goal.decreases-put_digits
decreases-put_digits l = l.digits
