use Rattle.std.proofs.Common.{arith, ◌≡◌, ℕ, ◌+◌, ◌<◌, ap, sym, ◌∙◌, List, ◌∷◌, length, get_or, drop}
use mathlib.Core.Logic.{⊎_elim, inl, inr}
use Rattle.model.specs.PoolFile.{number_from}
use Rattle.pool_number.specs.Reading.{as_read}
use Rattle.pool_number.proofs.Groups.{taken, wider, from-over, from-padded, from_last, from_more, from_end, opened, as_number}
use Rattle.pool_number.proofs.read_number.Goals as goal

-- what model reads with the byte that comes next
turn : (bytes : List ℕ) (p b k n : ℕ) → b ≡ get_or bytes p 0 → p < length bytes → number_from k n (b ∷ drop (p + 1) bytes) ≡ number_from k n (drop p bytes)
turn bytes p b k n e h = ap (number_from k n) (sym (opened bytes p b e h))

pub returns-then-b-gt1 : goal.returns-then-b-gt1
returns-then-b-gt1 c =
    let l = c.loop-p in
    ap (as_read _) (sym (from-over l.k l.n c.from-b.result _ c.if-k-eq63.true c.if-b-gt1.true) ∙ turn _ l.p _ l.k l.n c.from-b.ensures c.loop-p-test.true ∙ l.invariant.same)

pub overflow_add-n : goal.overflow_add-n
overflow_add-n c =
    let l = c.loop-p in
    let g = taken l.n l.k c.from-b.result l.invariant.fits l.invariant.bits l.invariant.groups c.else-k-eq63.either in
    omega (arith, g.exact, g.fits)

pub returns-then-k-gt0 : goal.returns-then-k-gt0
returns-then-k-gt0 c =
    let l = c.loop-p in
    ap (as_read _) (sym (from-padded l.k l.n c.from-b.result _ c.if-b-eq0.true c.if-k-gt0.true) ∙ turn _ l.p _ l.k l.n c.from-b.ensures c.loop-p-test.true ∙ l.invariant.same)

pub returns-then-b-lt128 : goal.returns-then-b-lt128
returns-then-b-lt128 c =
    let l = c.loop-p in
    let b = c.from-b.result in
    let g = taken l.n l.k b l.invariant.fits l.invariant.bits l.invariant.groups c.else-k-eq63.either in
    rw g.exact
    (as_number _ _ (l.p + 1) (omega arith)
    ∙ ap (as_read _)
    (sym (from_last l.k l.n b _ c.if-b-lt128.true g.fits (⊎_elim (λ w. inr (omega arith)) (λ w. inl (omega arith)) c.else-b-eq0.either))
    ∙ turn _ l.p _ l.k l.n c.from-b.ensures c.loop-p-test.true ∙ l.invariant.same))

pub loop-p-preserved : goal.loop-p-preserved
loop-p-preserved c =
    let l = c.loop-p in
    let b = c.from-b.result in
    let g = taken l.n l.k b l.invariant.fits l.invariant.bits l.invariant.groups c.else-k-eq63.either in
    record {
      bits = ⊎_elim (λ w. omega arith) (λ w. omega arith) c.else-k-eq63.either;
      groups = omega arith;
      fits = rw g.exact (wider l.n l.k b l.invariant.fits);
      same = rw g.exact (sym (from_more l.k l.n b _ c.if-b-lt128.false) ∙ turn _ l.p _ l.k l.n c.from-b.ensures c.loop-p-test.true ∙ l.invariant.same);
    }

pub returns : goal.returns
returns c =
    let l = c.loop-p in
    ap (as_read _) (sym (from_end _ l.k l.n l.p c.loop-p-test.false) ∙ l.invariant.same)
