use borrow.Author.Rules.{rules}
use Rattle.front_laws.specs.Flat.{flat_beats}
use Rattle.domination.proofs.constrained_dominates.Statement.{statement}
use Rattle.domination.proofs.constrained_dominates.Tie as tie

shared-slice-read-if1 : tie.Need-bounds-feasible-p
shared-slice-read-if1 c = search rules

shared-slice-read-if2 : tie.Need-bounds-feasible-q
shared-slice-read-if2 c = search rules

dominates-requires : tie.Need-dominates-requires
dominates-requires c κs = search rules

returns : tie.Need-returns-then-feasible-q
unfolding flat_beats
returns c = rw (c.if-feasible-p.true, c.if-feasible-q.true) c.dominates.ensures

returns-2 : tie.Need-returns-then-feasible-p
unfolding flat_beats
returns-2 c = rw (c.if-feasible-p.true, c.if-feasible-q.false)

shared-slice-read-if3 : tie.Need-bounds-feasible-q-2
shared-slice-read-if3 c = search rules

returns-3 : tie.Need-returns-then-feasible-q-2
unfolding flat_beats
returns-3 c = rw (c.if-feasible-p.false, c.if-feasible-q-2.true)

mul-result : tie.Need-offset_bounds-violations-p
mul-result c = search rules

shared-slice-read-result : tie.Need-bounds-violations-p
shared-slice-read-result c = search rules

mul-result-2 : tie.Need-offset_bounds-violations-q
mul-result-2 c = search rules

shared-slice-read-result-2 : tie.Need-bounds-violations-q
shared-slice-read-result-2 c = search rules

returns-4 : tie.Need-returns
unfolding flat_beats
returns-4 c = rw (c.if-feasible-p.false, c.if-feasible-q-2.false)

pub constrained_dominates_spec : {M : Type 1} → statement M
constrained_dominates_spec =
    tie.close
    (tie.spec
    shared-slice-read-if1
    shared-slice-read-if2
    dominates-requires
    returns
    returns-2
    shared-slice-read-if3
    returns-3
    mul-result
    shared-slice-read-result
    mul-result-2
    shared-slice-read-result-2
    returns-4)
