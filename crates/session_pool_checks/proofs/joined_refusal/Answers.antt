-- 8, and then 9
use mathlib.Core.List.{◌++◌}
use Rattle.session_pool_checks.proofs.Joined.{refused_8, refused_9, refused-not}
use Rattle.session_pool_checks.proofs.joined_refusal.Goals as goal

-- both slices' words
pub returns-then-bad_pools : goal.returns-then-bad_pools
returns-then-bad_pools c =
    refused_8 c.args.session (c.args.waiting.now ++ c.args.children.now) _ c.bad_pools.ensures c.if-bad_pools.true

pub returns-then-bad_parents : goal.returns-then-bad_parents
returns-then-bad_parents c =
    refused_9 c.args.session (c.args.waiting.now ++ c.args.children.now) _ _ c.bad_pools.ensures c.if-bad_pools.false c.bad_parents.ensures c.if-bad_parents.true

pub returns : goal.returns
returns c =
    refused-not c.args.session (c.args.waiting.now ++ c.args.children.now) _ _ c.bad_pools.ensures c.if-bad_pools.false c.bad_parents.ensures c.if-bad_parents.false
