use Rattle.std.proofs.Common.{◌-◌, arith}
use Rattle.settings.proofs.Valid.{few, each}
use Rattle.session_steps.proofs.States.{fits_more, answer-stored, answer-drawn}
use Rattle.session_steps.proofs.answer.Goals as goal

pub offset_bounds-dimensions-d : goal.offset_bounds-dimensions-d
offset_bounds-dimensions-d c = omega (arith, few _ _ c.requires.0.dims)

pub bounds-dimensions-d : goal.bounds-dimensions-d
bounds-dimensions-d c = omega (arith, few _ _ c.requires.0.dims)

pub overflow_mul-i : goal.overflow_mul-i
overflow_mul-i c =
    let h = fits_more c.requires.1 (few _ _ c.requires.0.dims) c.requires.2 in
    record { fits = omega arith }

pub overflow_add-i : goal.overflow_add-i
overflow_add-i c =
    let h = fits_more c.requires.1 (few _ _ c.requires.0.dims) c.requires.2 in
    record { fits = omega arith }

pub offset_bounds-candidates-i : goal.offset_bounds-candidates-i
offset_bounds-candidates-i c =
    let h = fits_more c.requires.1 (few _ _ c.requires.0.dims) c.requires.2 in
    record { fits = omega arith }

pub bounds-candidates-i : goal.bounds-candidates-i
bounds-candidates-i c =
    let h = fits_more c.requires.1 (few _ _ c.requires.0.dims) c.requires.2 in
    omega arith

pub returns-then-d-n : goal.returns-then-d-n
returns-then-d-n c ps pool = answer-stored _ _ _ ps _ pool _ _ c.if-d-n.true c.of_word-value.ensures c.kind_of_dimension-kind.ensures

pub offset_bounds-dimensions-n : goal.offset_bounds-dimensions-n
offset_bounds-dimensions-n c = omega (arith, few _ _ c.requires.0.dims)

pub bounds-dimensions-n : goal.bounds-dimensions-n
bounds-dimensions-n c = omega (arith, few _ _ c.requires.0.dims, c.requires.0.some)

pub sample_random-v-requires : goal.sample_random-v-requires
sample_random-v-requires c = each _ _ c.requires.0.dims (c.args.session.progress.n_dims - 1) (omega (arith, c.requires.0.some))

pub returns : goal.returns
returns c ps pool = answer-drawn _ _ _ ps _ pool _ _ _ c.if-d-n.false c.sample_random-v.ensures c.with_rng.ensures
