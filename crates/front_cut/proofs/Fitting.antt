-- The cut for a size, from the fronts' ends: what the code's steps give.
use Prim.Native.Nat.{ℕ, zero, suc, ◌-◌, ◌≤◌, ◌<◌}
use mathlib.Core.Path.{◌≡◌, refl, ap, sym, ◌∙◌}
use mathlib.Core.Bool.{Bool, ◌&&◌, cond}
use mathlib.Core.List.{List}
use native.Mathlib.Omega.{arith}
use borrow.Author.Tests.{lt-ltb, le-ltb}
use lib.Dec.{ltb}
use Rattle.std.proofs.Common.{Option, Some, None, All, MatchOption, unwrap_or, length, take}
use lib.Seq.{length-take-le, get_or-take}
use lib.ListN.{get_or}
use Rattle.list_laws.proofs.First.{first_below_le, first_below_nowhere, first_below-at}
use Rattle.front_cut.specs.Fitting.{fitting, start_of, cut_after, cut_of}

pub fitting_at : (ends : List ℕ) (x size k : ℕ) → k < x → size < get_or ends k 0 → ((t : ℕ) → t < k → get_or ends t 0 ≤ size) → fitting ends x size ≡ k
unfolding fitting
fitting_at ends x size k l e h = first_below-at _ x k l (lt-ltb size (get_or ends k 0) e) (λ t u. le-ltb size (get_or ends t 0) (h t u))

pub fitting_all : (ends : List ℕ) (x size : ℕ) → ((t : ℕ) → t < x → get_or ends t 0 ≤ size) → fitting ends x size ≡ x
unfolding fitting
fitting_all ends x size h = first_below_nowhere _ x (λ t u. le-ltb size (get_or ends t 0) (h t u))

-- what `position` says of the ends of x fronts
pub fitting_found : (ends : List ℕ) (x size : ℕ) (found : Option ℕ) → x ≤ length ends
    → MatchOption found (All (λ e. e ≤ size) (take x ends))
    (λ k. (k < length (take x ends)) × (size < get_or (take x ends) k 0) × ((t : ℕ) → t < k → get_or (take x ends) t 0 ≤ size))
    → unwrap_or found x ≡ fitting ends x size
fitting_found ends x size None h all =
    let e = length-take-le x ends h in
    sym (fitting_all ends x size (λ t l. rw (sym (get_or-take x ends t 0 l)) (all t 0 (omega arith))))
fitting_found ends x size (Some k) h w =
    let e = length-take-le x ends h in
    let l : k < x = omega (arith, w.0) in
    sym (fitting_at ends x size k l (rw (sym (get_or-take x ends k 0 l)) w.1) (λ t u. rw (sym (get_or-take x ends t 0 (omega arith))) (w.2 t u)))

pub fitting_le : (ends : List ℕ) (x size : ℕ) → fitting ends x size ≤ x
unfolding fitting
fitting_le ends x size = first_below_le _ x

pub start_none : (ends : List ℕ) (k : ℕ) → k ≡ 0 → 0 ≡ start_of ends k
start_none ends k e = sym (ap (start_of ends) e)

pub start_some : (ends : List ℕ) (k : ℕ) → (k ≡ 0 → ⊥) → get_or ends (k - 1) 0 ≡ start_of ends k
start_some ends zero h = absurd (h refl)
start_some ends (suc k) h = let e : suc k - 1 ≡ k = omega arith in ap (λ t. get_or ends t 0) e

-- the cut after the fronts that fit, by whether the next one is split
pub cut_by : (ends : List ℕ) (x size k whole : ℕ) → k ≡ fitting ends x size → whole ≡ start_of ends k → (b : Bool) → (ltb k x && ltb whole size) ≡ b
    → record { whole = whole; end = cond b (get_or ends k 0) whole; split = b } ≡ cut_of ends x size
unfolding cut_of
cut_by ends x size k whole at w b e = sym (ap (cut_after ends x size) (sym at) ∙ rw (← w, e))
