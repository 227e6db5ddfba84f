-- Divisions within refusal 4's bounds, and which a session uses.
use Prim.Native.Nat.{ℕ, ◌*◌, ◌≤◌, ◌<◌}
use mathlib.Core.Path.{◌≡◌, refl, ap, sym, ◌∙◌}
use mathlib.Core.Logic.{⊎_elim}
use mathlib.Core.Bool.{Bool, true, false}
use Rattle.std.specs.Prelude.{Option, None, Some}
use native.Mathlib.Nat.{max-eq_left, max-eq_right, le_of_lt}
use borrow.Author.Tests.{le-leb, lt-leb, leb-true, ltb-false, not-false}
use native.Mathlib.Omega.{arith}
use lib.Dec.{leb, ltb}
use Rattle.list_laws.proofs.Limits.{table-values}
use Rattle.list_laws.proofs.Bools.{and_left, and_right, or_left, or_right}
use Rattle.model.specs.Plan.{max_objectives}
use Rattle.model.specs.Reference.{point_count, auto_divisions, divisions_of, population_size_of, or_else}
use Rattle.model.specs.Refusal.{bad_divisions, bad_session_divisions, outside_divisions, max_lines}
use Rattle.reference_laws.proofs.First.{auto_first}

-- ---- refusal 4

inside : (h : ℕ) → outside_divisions h ≡ false → (1 ≤ h) × (h ≤ 199)
inside h e =
    let w = not-false _ e in
    (leb-true 1 h (and_left (leb 1 h) (leb h 199) w), leb-true h 199 (and_right (leb 1 h) (leb h 199) w))

inside-holds : (h : ℕ) → 1 ≤ h → h ≤ 199 → outside_divisions h ≡ false
inside-holds h a b = rw (le-leb 1 h a, le-leb h 199 b)

-- what is left where refusal 4 does not apply
pub record Allowed (m h : ℕ) : Type 0 where
  pub least : 1 ≤ h
  pub most : h ≤ 199
  pub lines : point_count m h ≤ max_lines

pub allowed : (m h : ℕ) → bad_divisions m h ≡ false → Allowed m h
unfolding bad_divisions
allowed m h e =
    let i = inside h (or_left (outside_divisions h) _ e) in
    record { least = i.0; most = i.1; lines = ltb-false max_lines (point_count m h) (or_right (outside_divisions h) _ e) }

-- where the test says no, the table has room
pub fits : (m h : ℕ) {b : Bool} → m ≤ max_objectives → b ≡ bad_divisions m h → b ≡ false → (1 ≤ h) × (h ≤ 199) × (point_count m h * m ≤ max_lines * max_objectives)
fits m h l e f = let w = allowed m h (sym e ∙ f) in (w.least, w.most, table-values (point_count m h) m w.lines l)

-- each way that the test goes
pub bad-below : (m h : ℕ) → h < 1 → true ≡ bad_divisions m h
unfolding bad_divisions
bad-below m h a = rw (lt-leb 1 h a)

pub bad-above : (m h : ℕ) → 199 < h → true ≡ bad_divisions m h
unfolding bad_divisions
bad-above m h a = rw (le-leb 1 h (omega arith), lt-leb h 199 a)

pub bad-by-lines : (m h p : ℕ) → 1 ≤ h → h ≤ 199 → p ≡ point_count m h → ltb max_lines p ≡ bad_divisions m h
unfolding bad_divisions
bad-by-lines m h p a b e = rw (inside-holds h a b, e)

-- ---- a session's

pub auto_inside : (m target : ℕ) → outside_divisions (auto_divisions m target) ≡ false
auto_inside m target = ⊎_elim (λ f. inside-holds _ f.least f.most) (λ n. ap outside_divisions n.instead) (auto_first m target)

-- refusal 4 at opening is that of the divisions that the session would use
pub session-bad : (m : ℕ) (size divisions : Option ℕ) → bad_divisions m (divisions_of m size divisions) ≡ bad_session_divisions m size divisions
unfolding bad_divisions bad_session_divisions divisions_of
session-bad m size (Some h) = refl
session-bad m size None = rw (auto_inside m (or_else size 100))

pub session_allowed : (m : ℕ) (size divisions : Option ℕ) → bad_session_divisions m size divisions ≡ false → Allowed m (divisions_of m size divisions)
session_allowed m size divisions e = allowed m (divisions_of m size divisions) (session-bad m size divisions ∙ e)

pub population_small : (m n : ℕ) (size divisions : Option ℕ) → n ≡ or_else size (point_count m (divisions_of m size divisions)) → n < 4 → 4 ≡ population_size_of m size divisions
unfolding population_size_of
population_small m n size divisions e l = rw (← e) (sym (max-eq_left (le_of_lt l)))

pub population_large : (m n : ℕ) (size divisions : Option ℕ) → n ≡ or_else size (point_count m (divisions_of m size divisions)) → 4 ≤ n → n ≡ population_size_of m size divisions
unfolding population_size_of
population_large m n size divisions e l = rw (← e) (sym (max-eq_right l))
