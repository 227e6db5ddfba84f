-- 10, but for a call that would breed
use mathlib.Core.Bool.{true, false}
use mathlib.Core.Path.{ap}
use Rattle.list_laws.proofs.Bools.{and_not}
use Rattle.model.specs.Session.{state, past_discovery}
use Rattle.session_laws.proofs.Request.{refused_10}
use Rattle.session_active.proofs.Ways.{first_unbred, breeds-by, breeds-not, short-bred}
use Rattle.session.proofs.short_refusal.Goals as goal

pub returns-in_default : goal.returns-in_default
returns-in_default c cs ns d plan other short =
    refused_10 (state c.args.session cs c.args.plans.now ns c.args.pool.now) d plan c.args.history.now (and_not _ _ other, and_not _ _ other) c.requires.1
    (first_unbred (state c.args.session cs c.args.plans.now ns c.args.pool.now) c.args.history.now (ap past_discovery c.in_default.is)) short

pub returns-then-pool-n_waiting : goal.returns-then-pool-n_waiting
returns-then-pool-n_waiting c cs ns d plan other short =
    refused_10 (state c.args.session cs c.args.plans.now ns c.args.pool.now) d plan c.args.history.now (and_not _ _ other, and_not _ _ other) c.requires.1 (breeds-not (state c.args.session cs c.args.plans.now ns c.args.pool.now) c.args.history.now c.if-pool-n_waiting.true) short

pub returns-then-evaluated : goal.returns-then-evaluated
returns-then-evaluated c cs ns d plan other short =
    short-bred (state c.args.session cs c.args.plans.now ns c.args.pool.now) d plan c.args.history.now _
    (breeds-by (state c.args.session cs c.args.plans.now ns c.args.pool.now) c.args.history.now _ true (ap past_discovery c.in-Active.is) c.if-pool-n_waiting.false c.evaluated.ensures c.if-evaluated.true)
    short c.requires.1 c.bred_refusal.ensures

pub returns : goal.returns
returns c cs ns d plan other short =
    refused_10 (state c.args.session cs c.args.plans.now ns c.args.pool.now) d plan c.args.history.now (and_not _ _ other, and_not _ _ other) c.requires.1
    (breeds-by (state c.args.session cs c.args.plans.now ns c.args.pool.now) c.args.history.now _ false (ap past_discovery c.in-Active.is) c.if-pool-n_waiting.false c.evaluated.ensures c.if-evaluated.false) short
