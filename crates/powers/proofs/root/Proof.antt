-- Neighbours that part v are R's (`root_parted`).
use mathlib.Core.Path.{sym, ◌∙◌}
use mathlib.Core.Bool.{true}
use native.Mathlib.Omega.{arith}
use Rattle.real_laws.proofs.Halving.{root_by}
use Rattle.real_laws.proofs.Parting.{root_parted}
use Rattle.powers.proofs.root.Statement.{statement}
use Rattle.powers.proofs.root.Tie as tie

returns : tie.Need-returns-then-v
returns c = sym (root_by c.args.v c.args.k true c.if-v.true)

guess-requires : tie.Need-guess-g-requires
guess-requires c κs = tt

sub-near : tie.Need-overflow_sub-g
sub-near c = omega arith

near-requires : tie.Need-near-b-requires
near-requires c κs = omega arith

real-of-word-requires : tie.Need-real_of_word-requires
real-of-word-requires c κs = tt

returns-2 : tie.Need-returns-then-b-lt-TOP
returns-2 c =
    let t = c.before in
    let n = t.before in
    let z = n.before.before in
    let s = z.before.args in
    c.real_of_word.ensures ∙ root_parted s.v s.k n.near-b.result z.if-v.false t.if-b-lt-TOP.true (n.near-b.ensures t.if-b-lt-TOP.true)

far-requires : tie.Need-far-requires
far-requires c κs = omega arith

real-of-word-requires-2 : tie.Need-real_of_word-requires-2
real-of-word-requires-2 c κs = tt

returns-3 : tie.Need-returns
returns-3 c =
    let f = c.before in
    let z = f.before.before.before.before in
    let s = z.before.args in
    c.real_of_word-2.ensures ∙ root_parted s.v s.k f.far.result z.if-v.false f.far.ensures.0 f.far.ensures.1

pub root_spec : {M : Type 1} → statement M
root_spec =
    tie.close
    (tie.spec
    returns
    guess-requires
    sub-near
    near-requires
    real-of-word-requires
    returns-2
    far-requires
    real-of-word-requires-2
    returns-3)
