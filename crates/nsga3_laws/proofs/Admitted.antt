-- Where no refusal is given, each limit is kept.
use mathlib.Core.Path.{◌≡◌}
use Rattle.std.specs.Prelude.{None}
use Rattle.model.specs.Association.{Request, objectives}
use Rattle.model.specs.Refusal.{Room, select_refusal}
use Rattle.list_laws.proofs.Checks.{pool-plans, pool-ideal, good-ideal-length}
use Rattle.reference_laws.proofs.Divisions.{allowed}
use Rattle.reference_laws.proofs.Count.{lines-some}
use Rattle.demand3_laws.proofs.Passed.{size-limits, count-limits, count-in_pool, some-objectives, room-each, select_passed}
use Rattle.nsga3_laws.specs.Admitted.{Admitted}

pub admitted : (r : Request) (room : Room) → select_refusal r room ≡ None → Admitted r room
admitted r room e =
    let p = select_passed r room e in
    let m = some-objectives r.marks p.directions in
    let h = allowed (objectives r) r.divisions p.divisions in
    let n = count-limits r.edition r.count p.count in
    let free = room-each r room p.slices in
    record {
      wide = m.0;
      narrow = m.1;
      divided = h.least;
      coarse = h.most;
      some_lines = lines-some (objectives r) r.divisions m.0;
      few_lines = h.lines;
      some_plans = n.0;
      few_plans = count-in_pool r.edition r.count p.count;
      of_edition = n.1;
      few = (size-limits r.size p.size).1;
      good = pool-plans r p.pool;
      ideal = good-ideal-length (objectives r) r.ideal (pool-ideal r p.pool);
      kept = free.0;
      rules = free.1;
      fronts = free.2;
      lines = free.3;
    }
