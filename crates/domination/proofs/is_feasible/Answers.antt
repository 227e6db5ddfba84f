use Rattle.std.proofs.Common.{rules, ◌↔◌, All, IsTrue}
use Rattle.std.proofs.iter.runs.Made.{chains}
use lib.Ieee.{nan, le}
use Rattle.model.specs.Real.{nought}
use Rattle.model.specs.Row.{feasible}
use Rattle.list_laws.proofs.Chains.{all_in-chain}
use Rattle.domination.proofs.is_feasible.Goals as goal

pub returns : goal.returns
unfolding feasible
returns c =
    let chain : IsTrue c.all.result ↔ All (λ x. IsTrue (le x nought)) c.args.constraints.now = search (rules, chains) in
    all_in-chain (λ x. le x nought) nan c.args.constraints.now _ chain
