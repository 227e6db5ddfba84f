-- A map s → a·s + c modulo 2^64 after itself is such a map, and the step's, doubled 64 times, is none.
use Prim.Native.Nat.{ℕ, suc, ◌+◌, ◌*◌, ◌/◌, ◌%◌, ◌^◌, ◌<◌}
use mathlib.Core.Path.{◌≡◌, refl, sym, ap, ap₂, ◌∙◌}
use native.Mathlib.Nat.{add-mul, mul_assoc, mul_comm, mod-add-mod, add-mod-mod, mul-add-mod_self_right, div-add-mod'}
use native.Mathlib.Omega.{arith}
use Rattle.jump_laws.specs.Steps.{applied, mul_at, add_at}

-- a factor's remainder is enough
factor_mod : (x y m : ℕ) → (x % m * y) % m ≡ (x * y) % m
factor_mod x y m =
    let e : x * y ≡ (x / m * y) * m + x % m * y =
    ap (λ t. t * y) (sym (div-add-mod' x m)) ∙ add-mul (x / m * m) (x % m) y ∙ ap (λ t. t + x % m * y) (mul_assoc (x / m) m y ∙ ap (λ t. x / m * t) (mul_comm m y) ∙ sym (mul_assoc (x / m) y m)) in
    sym (ap (λ t. t % m) e ∙ mul-add-mod_self_right (x / m * y) m (x % m * y))

-- .. in a sum
sum_mod : (x y z m : ℕ) → (x % m * y + z) % m ≡ (x * y + z) % m
sum_mod x y z m = sym (mod-add-mod (x % m * y) m z) ∙ ap (λ t. (t + z) % m) (factor_mod x y m) ∙ mod-add-mod (x * y) m z

grouped : (a c s : ℕ) → (s * a + c) * a + c ≡ (a * a) * s + (c * a + c)
grouped a c s =
    let e = add-mul (s * a) c a in
    let f : s * a * a ≡ a * a * s = mul_assoc s a a ∙ mul_comm s (a * a) in
    omega arith

pub applied-twice : (a c s : ℕ) → applied a c (applied a c s) ≡ applied ((a * a) % 2 ^ 64) (applied a c c) s
unfolding applied
applied-twice a c s =
    sum_mod (s * a + c) a c (2 ^ 64) ∙ ap (λ t. t % 2 ^ 64) (grouped a c s)
    ∙ sym (add-mod-mod (s * ((a * a) % 2 ^ 64)) (c * a + c) (2 ^ 64)
    ∙ ap (λ t. (t + (c * a + c)) % 2 ^ 64) (mul_comm s ((a * a) % 2 ^ 64))
    ∙ sum_mod (a * a) s (c * a + c) (2 ^ 64))

pub map_more : (i s : ℕ) → applied (mul_at i) (add_at i) (applied (mul_at i) (add_at i) s) ≡ applied (mul_at (suc i)) (add_at (suc i)) s
unfolding mul_at add_at
map_more i s = applied-twice (mul_at i) (add_at i) s

-- ONE COMPUTED FACT: the map of 2^64 steps leaves a state as it is
mul-full : mul_at 64 ≡ 1
unfolding mul_at
mul-full = refl

add-full : add_at 64 ≡ 0
unfolding mul_at add_at applied
add-full = refl

pub map-full : (s : ℕ) → s < 2 ^ 64 → applied (mul_at 64) (add_at 64) s ≡ s
unfolding applied
map-full s h = ap₂ (λ a c. (s * a + c) % 2 ^ 64) mul-full add-full ∙ omega arith
