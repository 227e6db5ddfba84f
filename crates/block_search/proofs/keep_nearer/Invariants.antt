-- line n has been tried for the plans before b
use Rattle.std.proofs.Common.{ℕ}
use lib.Ieee.{Float}
use Rattle.block_search.specs.Turn.{FoundAll, NextAll, Turned}
use Rattle.block_search.proofs.keep_nearer.Given as goal

abbrev pub invariant-loop-b : goal.invariant-loop-b
invariant-loop-b l =
    (d : ℕ → ℕ → Float) → FoundAll l.edition d l.line l.len l.initial.lines l.initial.best → NextAll l.edition d l.line l.len l.squares → Turned l.edition d l.line l.len l.b l.lines l.best
