use Rattle.std.proofs.Common.{rules, ◌∙◌, ◌<◌, ◌≤◌, ℕ, All, MatchOption, get_or, length, take}
use Rattle.std.proofs.iter.runs.Made.{chains}
use Rattle.front_cut.proofs.Fitting.{fitting_found}
use Rattle.front_cut.proofs.fronts_that_fit.Goals as goal

pub returns : goal.returns
returns c =
    let size = c.args.size in
    let part = take c.args.fronts c.args.ends.now in
    let chain : MatchOption c.position.result (All (λ e. e ≤ size) part)
    (λ k. (k < length part) × (size < get_or part k 0) × ((t : ℕ) → t < k → get_or part t 0 ≤ size)) = search (rules, chains) in
    c.unwrap_or.ensures ∙ fitting_found c.args.ends.now c.args.fronts size c.position.result c.requires chain
