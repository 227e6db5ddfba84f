-- Two draws, and the smaller rank.
use Rattle.std.proofs.Common.{true, false, ℕ, arith, get_or, le-leb}
use borrow.Author.Tests.{lt-leb}
use Rattle.rng_util.proofs.Draws.{drawn-below}
use Rattle.genetic.proofs.Steps.{tournament_is}
use Rattle.genetic.proofs.tournament_select_rank.Goals as goal

pub offset_bounds-ranks-a : goal.offset_bounds-ranks-a
offset_bounds-ranks-a c = let h = drawn-below _ _ _ _ c.requires.0 c.draw_usize-a.ensures in omega arith

pub bounds-ranks-a : goal.bounds-ranks-a
bounds-ranks-a c = let h = drawn-below _ _ _ _ c.requires.0 c.draw_usize-a.ensures in omega arith

pub offset_bounds-ranks-b : goal.offset_bounds-ranks-b
offset_bounds-ranks-b c = let h = drawn-below _ _ _ _ c.requires.0 c.draw_usize-b.ensures in omega arith

pub bounds-ranks-b : goal.bounds-ranks-b
bounds-ranks-b c = let h = drawn-below _ _ _ _ c.requires.0 c.draw_usize-b.ensures in omega arith

pub returns-then-ranks-a : goal.returns-then-ranks-a
returns-then-ranks-a c =
    let a = c.args in
    tournament_is (λ (i : ℕ). get_or a.ranks.now i 0) _ _ _ _ _ _ true c.draw_usize-a.ensures
    c.draw_usize-b.ensures (le-leb _ _ c.if-ranks-a.true)

pub returns : goal.returns
returns c =
    let a = c.args in
    tournament_is (λ (i : ℕ). get_or a.ranks.now i 0) _ _ _ _ _ _ false c.draw_usize-a.ensures
    c.draw_usize-b.ensures (lt-leb _ _ c.if-ranks-a.false)
