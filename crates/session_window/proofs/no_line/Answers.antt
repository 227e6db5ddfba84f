use Rattle.std.proofs.Common.{rules, ◌↔◌, All, IsTrue, take, eqb, ◌∙◌}
use Rattle.std.proofs.iter.runs.Made.{chains}
use Rattle.list_laws.proofs.Chains.{all_in-chain}
use Rattle.model.specs.Kept.{without_line}
use Rattle.session_window.proofs.Least.{no_line-each}
use Rattle.session_window.proofs.no_line.Goals as goal

pub returns : goal.returns
returns c =
    let first = take c.args.n c.args.lines.now in
    let chain : IsTrue c.all.result ↔ All (λ line. IsTrue (eqb line without_line)) first = search (rules, chains) in
    all_in-chain (λ line. eqb line without_line) 0 first _ chain ∙ no_line-each c.args.lines.now c.args.n c.requires
