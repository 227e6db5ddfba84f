-- A selection that meets no refusal.
use Rattle.std.specs.Prelude.{◌≤◌, ◌<◌, ◌≡◌, true, length}
use Rattle.model.specs.Edition.{most_plans}
use Rattle.model.specs.Association.{Request, objectives, line_count}
use Rattle.model.specs.Plan.{max_objectives}
use Rattle.model.specs.Refusal.{Room, max_size, max_pool, max_lines, good_plans}

-- each limit that it keeps
pub record Admitted (r : Request) (room : Room) : Type 0 where
  pub wide : 1 ≤ objectives r
  pub narrow : objectives r ≤ max_objectives
  pub divided : 1 ≤ r.divisions
  pub coarse : r.divisions ≤ 199
  pub some_lines : 0 < line_count r
  pub few_lines : line_count r ≤ max_lines
  pub some_plans : 0 < r.count
  pub few_plans : r.count ≤ max_pool
  pub of_edition : r.count ≤ most_plans r.edition
  pub few : r.size ≤ max_size
  pub good : good_plans (objectives r) r.plans r.count ≡ true
  pub ideal : length r.ideal ≡ objectives r
  pub kept : r.size ≤ room.kept
  pub rules : r.size ≤ room.rules
  pub fronts : r.count ≤ room.fronts
  pub lines : r.count ≤ room.lines
