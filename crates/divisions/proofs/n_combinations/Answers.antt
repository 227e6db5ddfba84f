use Rattle.std.proofs.Common.{ℕ, ◌+◌, ◌-◌, ◌*◌, ◌/◌, sym, ap, ◌∙◌, arith}
use Rattle.model.specs.Reference.{binomial}
use Rattle.reference_laws.proofs.Count.{binomial-start, binomial-next, binomial_none, product_fits}
use Rattle.divisions.proofs.n_combinations.Goals as goal

pub returns-then-k-n : goal.returns-then-k-n
returns-then-k-n c = sym (binomial_none _ _ c.if-k-n.true)

pub loop-i-init : goal.loop-i-init
loop-i-init c = sym (binomial-start _)

pub overflow_mul-result : goal.overflow_mul-result
overflow_mul-result c =
    let l = c.loop-i in
    record { fits = rw l.invariant (product_fits c.args.n l.i (omega arith) (omega arith)) }

pub loop-i-preserved : goal.loop-i-preserved
loop-i-preserved c =
    let l = c.loop-i in
    let n = c.args.n in
    ap (λ (x : ℕ). x * (n - l.i) / (l.i + 1)) l.invariant ∙ sym (binomial-next n l.i)

pub returns : goal.returns
returns c = c.loop-i.invariant ∙ ap (binomial c.args.n) (omega arith)
