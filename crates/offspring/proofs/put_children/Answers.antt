-- both children, or the first
use Rattle.std.proofs.Common.{◌≡◌, length, arith}
use Rattle.settings.specs.Candidate.{settings_of}
use Rattle.candidates.proofs.Laid.{words-length}
use Rattle.list_laws.proofs.Rows.{row_within}
use Rattle.offspring.proofs.Laying.{both, one, second_fits}
use Rattle.offspring.proofs.put_children.Goals as goal

pub overflow_mul-at : goal.overflow_mul-at
overflow_mul-at c =
    let a = c.args in
    let f = row_within a.at a.size a.n (length a.out.now) c.requires.1 c.requires.2 in
    record { fits = omega arith }

pub put_candidate-requires : goal.put_candidate-requires
put_candidate-requires c =
    let a = c.args in
    (c.requires.0, row_within a.at a.size a.n (length a.out.now) c.requires.1 c.requires.2)

pub overflow_mul-at-then-at-size : goal.overflow_mul-at-then-at-size
overflow_mul-at-then-at-size c =
    let a = c.args in
    let f = row_within a.at a.size a.n (length a.out.now) c.requires.1 c.requires.2 in
    record { fits = omega arith }

pub overflow_add-at-then-at-size : goal.overflow_add-at-then-at-size
overflow_add-at-then-at-size c =
    let a = c.args in
    let f = row_within a.at a.size a.n (length a.out.now) c.requires.1 c.requires.2 in
    record { fits = omega arith }

pub put_candidate-requires-then-at-size : goal.put_candidate-requires-then-at-size
put_candidate-requires-then-at-size c =
    let a = c.args in
    let same : length c.put_candidate.new.out ≡ length a.out.now = c.put_candidate.auto.out in
    (c.requires.0, omega (arith, second_fits a.at a.size a.n (length a.out.now) c.if-at-size.true c.requires.2))

pub returns-then-at-size : goal.returns-then-at-size
returns-then-at-size c =
    let a = c.args in
    both (settings_of a.first a.n) (settings_of a.second a.n) a.n a.at a.size a.out.now _ _ c.put_candidate.ensures
    (words-length a.first a.n) c.if-at-size.true c.put_candidate-then-at-size.ensures

pub returns-else-at-size : goal.returns-else-at-size
returns-else-at-size c =
    let a = c.args in
    one (settings_of a.first a.n) (settings_of a.second a.n) a.n a.at a.size a.out.now _ a.out.now c.put_candidate.ensures c.requires.1 (omega arith)
