-- a pool of one draws, any other selects and breeds
use Rattle.std.proofs.Common.{length, arith}
use Rattle.model.specs.Setting.{operators_in}
use Rattle.model.specs.Calls.{word_request, lent, room_of}
use Rattle.demand3_laws.proofs.Passed.{passed, count-in_pool}
use Rattle.generation_laws.proofs.Accepted.{dimensions-pass, offspring-room}
use Rattle.generation_laws.proofs.Answer.{one-exit}
use Rattle.generation_step.proofs.step.Goals as goal

pub sample_candidates-rng-requires : goal.sample_candidates-rng-requires
sample_candidates-rng-requires c =
    let a = c.args in
    let r = word_request a.edition a.pool.now a.directions.now a.divisions a.size a.rng a.ideal.now in
    let g = passed (operators_in a.operators) r (room_of (lent a.kept.now a.rules.now a.fronts.now a.lines.now)) (length a.offspring.now) c.requires in
    (dimensions-pass g, offspring-room g)

pub returns-then-count-lt2 : goal.returns-then-count-lt2
returns-then-count-lt2 c =
    let a = c.args in
    let d = c.sample_candidates-rng.ensures in
    one-exit a.edition (operators_in a.operators) a.pool.now a.directions.now a.divisions a.size a.rng a.ideal.now
    (lent a.kept.now a.rules.now a.fronts.now a.lines.now) a.offspring.now (omega (arith, c.plan_count-count.ensures, c.if-count-lt2.true)) _ _ d.words d.state

pub select_and_breed-requires : goal.select_and_breed-requires
select_and_breed-requires c =
    let a = c.args in
    let r = word_request a.edition a.pool.now a.directions.now a.divisions a.size a.rng a.ideal.now in
    let g = passed (operators_in a.operators) r (room_of (lent a.kept.now a.rules.now a.fronts.now a.lines.now)) (length a.offspring.now) c.requires in record {
      bound = (omega (arith, c.plan_count-count.ensures, c.if-count-lt2.false), count-in_pool a.edition _ g.count);
      offspring_value = c.requires;
    }
