use Rattle.std.proofs.Common.{arith}
use Rattle.settings.proofs.Valid.{few}
use Rattle.session_steps.proofs.States.{fits_more, overflow_is}
use Rattle.session_steps.proofs.overflow.Goals as goal

pub overflow_mul-k : goal.overflow_mul-k
overflow_mul-k c =
    let h = fits_more c.requires.1 (few _ _ c.requires.0) c.requires.2 in
    record { fits = omega arith }

pub put_candidate-requires : goal.put_candidate-requires
put_candidate-requires c = (few _ _ c.requires.0, fits_more c.requires.1 (few _ _ c.requires.0) c.requires.2)

pub returns : goal.returns
returns c ps ns pool = overflow_is _ _ _ _ ps ns pool _ _ _ c.sample_all-c.ensures c.put_candidate.ensures c.with_rng.ensures c.with_progress.ensures
