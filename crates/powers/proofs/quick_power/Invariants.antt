-- nothing is promised but an end: what is left of k falls
use Rattle.powers.proofs.quick_power.Given as goal

abbrev pub decreases-loop-left : goal.decreases-loop-left
decreases-loop-left l = l.left
