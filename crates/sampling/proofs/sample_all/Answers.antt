use Rattle.std.proofs.Common.{◌<◌, length, ap, arith}
use lib.ListN.{length-set}
use Rattle.settings.proofs.Valid.{few, each}
use Rattle.settings.proofs.Candidates.{candidate_none, candidate_more}
use Rattle.sampling.proofs.sample_all.Goals as goal

pub loop-i-init : goal.loop-i-init
loop-i-init c = record { few = few _ _ c.requires; size = ap length c.blank_candidate-params.ensures; so_far = candidate_none _ _ _ }

pub sample_random-v-requires : goal.sample_random-v-requires
sample_random-v-requires c = each _ _ c.requires c.loop-i.i c.loop-i-test.true

pub loop-i-preserved : goal.loop-i-preserved
loop-i-preserved c =
    let l = c.loop-i in
    let room : l.i < length l.params = omega arith in record {
      few = l.invariant.few;
      size = simp length-set l.invariant.size;
      so_far = candidate_more _ l.params l.i _ room l.invariant.so_far c.sample_random-v.ensures;
    }
