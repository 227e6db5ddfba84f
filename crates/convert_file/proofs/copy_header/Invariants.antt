-- i numbers are copied so far, read up to p, and stored
use Rattle.convert_file.proofs.Heads.{Fills}
use Rattle.convert_file.proofs.copy_header.Given as goal

abbrev pub invariant-loop-i : goal.invariant-loop-i
invariant-loop-i l = Fills l.file l.at l.initial.words l.initial.out l.initial.to l.i l.words l.out l.to l.p
