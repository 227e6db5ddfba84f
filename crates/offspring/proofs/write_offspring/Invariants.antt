-- the children of k broods are laid, up to the size
use Rattle.std.proofs.Common.{ℕ, ◌*◌, min, get_or}
use Rattle.model.specs.Setting.{operators_in}
use Rattle.settings.specs.Candidate.{parents_in}
use Rattle.candidates.proofs.Laid.{LaidOut}
use Rattle.offspring.proofs.Laying.{bred_by}
use Rattle.offspring.proofs.write_offspring.Given as goal

abbrev pub invariant-loop-k : goal.invariant-loop-k
invariant-loop-k l =
    let o = operators_in l.operators in
    LaidOut l.initial.offspring (min (2 * l.k) l.size * o.dim_count)
    (bred_by o (parents_in o.dims o.dim_count l.parents l.count) (λ (i : ℕ). get_or l.ranks i 0) l.initial.rng.s l.size l.k) l.offspring l.rng.s
