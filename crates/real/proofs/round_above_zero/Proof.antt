-- The whole part, and the test that decides (`Halves`).
use Rattle.std.proofs.Common.{◌≡◌, ℕ, ◌+◌, ◌*◌, Bool, T, pos, sym, ap, ◌∙◌, subst, arith}
use lib.Ieee.{Float, binary64, le, lt, add, of_int, of_bits}
use Rattle.list_laws.proofs.Bools.{true_T}
use Rattle.float_laws.proofs.Order.{lt→le}
use Rattle.float_laws.proofs.Constants.{nought}
use Rattle.real_laws.proofs.Halves.{castable, Parted, parted}
use Rattle.real.proofs.round_above_zero.Statement.{statement}
use Rattle.real.proofs.round_above_zero.Tie as tie

above : (c : tie.Start) → T (lt nought c.args.x)
unfolding of_bits
above c = c.requires.0

truncating-f64-to-u64-requires : tie.Need-truncating_f64_to_u64-n-requires
truncating-f64-to-u64-requires c κs = castable c.args.x (lt→le _ _ (above c)) (lt→le _ _ c.requires.1)

-- what is known of the whole part
known : (c : tie.After-truncating_f64_to_u64-n) → Parted c.args.x c.truncating_f64_to_u64-n.result
known c =
    let s = c.before in
    subst (Parted s.args.x) (sym c.truncating_f64_to_u64-n.ensures) (parted s.args.x (true_T _ s.well_formed.0.1) (above s) s.requires.1)

mul-nearest-u64-to-f64 : tie.Need-overflow_mul-n
mul-nearest-u64-to-f64 c = let h = (known c).small in omega arith

add-nearest-u64-to-f64 : tie.Need-overflow_add-n
add-nearest-u64-to-f64 c = let h = (known c).small in omega arith

nearest-u64-to-f64-requires : tie.Need-nearest_u64_to_f64-requires
nearest-u64-to-f64-requires c κs = tt

add-nearest-u64-to-f64-2 : tie.Need-overflow_add-n-then-x-nearest_u64_to_f64
add-nearest-u64-to-f64-2 c = let h = (known c.before.before).small in omega arith

nearest-u64-to-f64-requires-2 : tie.Need-nearest_u64_to_f64-requires-then-x-nearest_u64_to_f64
nearest-u64-to-f64-requires-2 c κs = tt

nearest-u64-to-f64-requires-3 : tie.Need-nearest_u64_to_f64-requires-else-x-nearest_u64_to_f64
nearest-u64-to-f64-requires-3 c κs = tt

-- the test, on what the library answered
test : (x y : Float) (n : ℕ) (b : Bool) → y ≡ of_int binary64 (pos (2 * n + 1)) → le y (add binary64 x x) ≡ b → le (of_int binary64 (pos (2 * n + 1))) (add binary64 x x) ≡ b
test x y n b e t = sym (ap (λ (z : Float). le z (add binary64 x x)) e) ∙ t

returns : tie.Need-returns-then-x-nearest_u64_to_f64
returns c =
    let t = c.before in
    let n = t.before in
    let w = n.before in
    c.nearest_u64_to_f64-then-x-nearest_u64_to_f64.ensures
    ∙ (known w).up (test w.before.args.x n.nearest_u64_to_f64.result w.truncating_f64_to_u64-n.result _ n.nearest_u64_to_f64.ensures t.if-x-nearest_u64_to_f64.true)

returns-2 : tie.Need-returns-else-x-nearest_u64_to_f64
returns-2 c =
    let t = c.before in
    let n = t.before in
    let w = n.before in
    c.nearest_u64_to_f64-else-x-nearest_u64_to_f64.ensures
    ∙ (known w).down (test w.before.args.x n.nearest_u64_to_f64.result w.truncating_f64_to_u64-n.result _ n.nearest_u64_to_f64.ensures t.if-x-nearest_u64_to_f64.false)

pub round_above_zero_spec : {M : Type 1} → statement M
round_above_zero_spec =
    tie.close
    (tie.spec
    truncating-f64-to-u64-requires
    mul-nearest-u64-to-f64
    add-nearest-u64-to-f64
    nearest-u64-to-f64-requires
    add-nearest-u64-to-f64-2
    nearest-u64-to-f64-requires-2
    nearest-u64-to-f64-requires-3
    returns
    returns-2)
