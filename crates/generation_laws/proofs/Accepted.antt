-- A generation step that meets no refusal: the limits that it keeps beside those of its tests, and that its selection meets none either.
use Prim.Native.Nat.{ℕ, ◌*◌, ◌≤◌}
use mathlib.Core.Path.{◌≡◌, sym, ap, ◌∙◌}
use mathlib.Core.Bool.{false, ◌&&◌}
use Rattle.std.specs.Prelude.{None}
use borrow.Author.Tests.{ltb-false, le-leb}
use lib.Dec.{leb, ltb}
use Rattle.list_laws.proofs.Bools.{or_left, or_right}
use Rattle.model.specs.Association.{Request}
use Rattle.model.specs.Setting.{Operators}
use Rattle.model.specs.Refusal.{Room, first_of, bad_dimensions, no_room, no_step_room, select_refusal, too_short}
use Rattle.settings.proofs.Valid.{good-dimensions}
use Rattle.demand3_laws.proofs.Passed.{Passed, room-each}

module _ {o : Operators} {r : Request} {room : Room} {offspring : ℕ} (p : Passed o r room offspring) where
  -- neither 6 nor 12 applies to its dimensions
  pub dimensions-pass : bad_dimensions o.dims o.dim_count ≡ false
  dimensions-pass = good-dimensions o.dims o.dim_count p.bounds p.steps

  pub offspring-room : r.size * o.dim_count ≤ offspring
  unfolding no_step_room
  offspring-room = ltb-false offspring (r.size * o.dim_count) (or_right (leb 2 r.count && too_short room r.size r.count) (ltb offspring (r.size * o.dim_count)) p.slices)

  -- from two plans on the selection has its room, and so meets no refusal
  select_room : 2 ≤ r.count → no_room r room ≡ false
  unfolding no_step_room no_room
  select_room h =
      ap (λ b. b && no_room r room) (sym (le-leb 2 r.count h)) ∙ or_left (leb 2 r.count && no_room r room) (ltb offspring (r.size * o.dim_count)) p.slices

  pub kept-room : 2 ≤ r.count → r.size ≤ room.kept
  kept-room h = (room-each r room (select_room h)).0

  pub fronts-room : 2 ≤ r.count → r.count ≤ room.fronts
  fronts-room h = (room-each r room (select_room h)).2

  pub selects : 2 ≤ r.count → select_refusal r room ≡ None
  unfolding select_refusal first_of
  selects h = rw (p.directions, p.size, p.divisions, p.count, p.pool, select_room h)
