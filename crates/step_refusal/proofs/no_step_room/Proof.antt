-- `no_step_room`: slice after slice
use native.Mathlib.Omega.{arith}
use Prim.Native.Nat.{◌*◌, ◌≤◌}
use native.Mathlib.Nat.{mul-le-mul}
use Rattle.model.specs.Refusal.{max_size}
use Rattle.model.specs.Setting.{max_dims}
use Rattle.generation_laws.proofs.Refusals.{room-offspring, room-of-one, room-of-many}
use Rattle.step_refusal.proofs.no_step_room.Statement.{statement}
use Rattle.step_refusal.proofs.no_step_room.Tie as tie

mul-if1 : tie.Need-overflow_mul-size
mul-if1 c = let f : c.args.size * c.args.n_dims ≤ max_size * max_dims = mul-le-mul c.requires.0 c.requires.1 in record { fits = omega arith }

returns : tie.Need-returns-then-offspring-size
returns c =
    let a = c.args in
    room-offspring a.size a.n a.n_dims (record { kept = a.kept; rules = a.rules; fronts = a.fronts; lines = a.lines }) a.offspring c.if-offspring-size.true

returns-2 : tie.Need-returns-then-n-lt2
returns-2 c =
    let a = c.args in
    room-of-one a.size a.n a.n_dims (record { kept = a.kept; rules = a.rules; fronts = a.fronts; lines = a.lines }) a.offspring c.if-offspring-size.false c.if-n-lt2.true

no-room-requires : tie.Need-no_room-requires
no-room-requires c κs = tt

returns-3 : tie.Need-returns
returns-3 c =
    let a = c.args in
    room-of-many a.size a.n a.n_dims (record { kept = a.kept; rules = a.rules; fronts = a.fronts; lines = a.lines }) a.offspring c.if-offspring-size.false c.if-n-lt2.false _ c.no_room.ensures

pub no_step_room_spec : {M : Type 1} → statement M
no_step_room_spec = tie.close (tie.spec mul-if1 returns returns-2 no-room-requires returns-3)
