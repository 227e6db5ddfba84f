use Rattle.std.proofs.Common.{rules, ◌↔◌, ◌+◌, All, IsTrue}
use Rattle.std.specs.List.{between}
use Rattle.std.proofs.iter.runs.Made.{chains}
use Rattle.model.specs.Real.{real}
use Rattle.model.specs.Refusal.{measurable}
use Rattle.plans.proofs.Refused.{measurable_part}
use Rattle.plans.proofs.measurable_words.Goals as goal

pub returns : goal.returns
returns c =
    let a = c.args in
    let chain : IsTrue c.all.result ↔ All (λ w. IsTrue (measurable (real w))) (between a.at (a.at + a.n) a.words.now) = search (rules, chains) in
    measurable_part a.words.now a.at a.n _ c.requires chain
