use Rattle.std.proofs.Common.{◌≡◌, sym, ◌∙◌, ℕ, suc, ◌+◌, ◌*◌, ◌^◌, ◌<◌, ◌≤◌, add-one, arith}
use native.Mathlib.Nat.{lt_of_lt_of_le, lt_of_le_of_lt}
use lib.Dec.{lit≤}
use Rattle.model.specs.Numbers.{near_root, closer}
use Rattle.list_laws.proofs.Below.{cond_lt, cond_le}
use Rattle.real_laws.proofs.Roots.Whole.{near_root-of}
use Rattle.real_laws.proofs.Roots.Digits.{Turns, Step, more-fits, take-fits, step, last, last_root, last_fits, start}
use Rattle.square_root.proofs.near_root.Goals as goal
use Rattle.square_root.proofs.near_root.Goals.{After-root_digit-one}

-- the remainder says which way to round
module _ (a rest rem root i : ℕ) (t : Turns a rest rem root i) (l : 53 ≤ i) where
  near : near_root (a * 2 ^ 52) ≡ closer (a * 2 ^ 52) root
  near = near_root-of (a * 2 ^ 52) root (last_root a rest rem root i t l)

  up : root < rem → near_root (a * 2 ^ 52) ≡ root + 1
  unfolding closer
  up h =
      let e = last a rest rem root i t l in
      near ∙ cond_lt (root * root + root) (a * 2 ^ 52) (suc root) root (omega arith) ∙ sym (add-one root)

  down : rem ≤ root → near_root (a * 2 ^ 52) ≡ root
  unfolding closer
  down h =
      let e = last a rest rem root i t l in
      near ∙ cond_le (root * root + root) (a * 2 ^ 52) (suc root) root (omega arith)

-- what the digit makes of the turn
taken : (c : After-root_digit-one) → Step c.args.a c.loop-i.rest c.loop-i.rem c.loop-i.root c.loop-i._i c.root_digit-one.result
taken c =
    let l = c.loop-i in
    step c.args.a l.rest l.rem l.root l._i c.root_digit-one.result l.invariant c.loop-i-test.true c.root_digit-one.ensures

pub loop-i-init : goal.loop-i-init
loop-i-init c = start c.args.a c.requires

pub overflow_add-more : goal.overflow_add-more
overflow_add-more c =
    let l = c.loop-i in
    record { fits = lt_of_lt_of_le (more-fits c.args.a l.rest l.rem l.root l._i l.invariant c.loop-i-test.true) (lit≤ tt) }

pub overflow_add-take : goal.overflow_add-take
overflow_add-take c =
    let l = c.loop-i in
    record { fits = lt_of_lt_of_le (take-fits c.args.a l.rest l.rem l.root l._i l.invariant c.loop-i-test.true) (lit≤ tt) }

pub overflow_mul-rem : goal.overflow_mul-rem
overflow_mul-rem c =
    let l = c.loop-i in
    let f = more-fits c.args.a l.rest l.rem l.root l._i l.invariant c.loop-i-test.true in
    record { fits = lt_of_le_of_lt (taken (goal.at.overflow_mul-rem c).After-root_digit-one).less (lt_of_lt_of_le f (lit≤ tt)) }

pub overflow_sub-rem : goal.overflow_sub-rem
overflow_sub-rem c = (taken (goal.at.overflow_sub-rem c).After-root_digit-one).less

pub overflow_add-root : goal.overflow_add-root
overflow_add-root c = record { fits = lt_of_lt_of_le (taken (goal.at.overflow_add-root c).After-root_digit-one).fits (lit≤ tt) }

pub loop-i-preserved : goal.loop-i-preserved
loop-i-preserved c = (taken (goal.at.loop-i-preserved c).After-root_digit-one).then

pub overflow_add-result : goal.overflow_add-result
overflow_add-result c =
    let l = c.loop-i in
    record { fits = lt_of_lt_of_le (last_fits c.args.a l.rest l.rem l.root l._i l.invariant) (lit≤ tt) }

pub returns-then-root-rem : goal.returns-then-root-rem
returns-then-root-rem c =
    let l = c.loop-i in
    sym (up c.args.a l.rest l.rem l.root l._i l.invariant c.loop-i-test.false c.if-root-rem.true)

pub returns-else-root-rem : goal.returns-else-root-rem
returns-else-root-rem c =
    let l = c.loop-i in
    sym (down c.args.a l.rest l.rem l.root l._i l.invariant c.loop-i-test.false c.if-root-rem.false)
