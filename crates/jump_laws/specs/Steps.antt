-- So many steps of the generator as one map s → a·s + c modulo 2^64, and where a loop over the binary digits of k stands.
use Rattle.std.specs.Prelude.{ℕ, zero, suc, ◌+◌, ◌*◌, ◌/◌, ◌%◌, ◌^◌, ◌≡◌, cond, eqb}
use Rattle.model.specs.Load.{ahead}

-- the map's value at s
unfoldable pub applied : ℕ → ℕ → ℕ → ℕ
applied a c s = (s * a + c) % 2 ^ 64

-- the map of 2^i steps: one step's, i times composed with itself
unfoldable pub mul_at : ℕ → ℕ
mul_at zero = 6364136223846793005
mul_at (suc i) = let a = mul_at i in (a * a) % 2 ^ 64

unfoldable pub add_at : ℕ → ℕ
add_at zero = 1442695040888963407
add_at (suc i) = let c = add_at i in applied (mul_at i) c c

-- the state that one binary digit leads to
unfoldable pub moved_by : ℕ → ℕ → ℕ → ℕ → ℕ
moved_by a c s digit = let there = applied a c s in cond (eqb digit 1) there s

-- after i digits of k: the map is that of 2^i steps, the digits that are left stand in `left`, and the state is as many words on as those passed form
pub record Passed (k start i left a c s : ℕ) : Type 0 where
  pub mul : a ≡ mul_at i
  pub add : c ≡ add_at i
  pub rest : left ≡ k / 2 ^ i
  pub state : s ≡ ahead (k % 2 ^ i) start
