-- What is drawn: the k-th line or member, k drawn below their number.
use Prim.Native.Nat.{ℕ, zero, suc, ◌<◌}
use mathlib.Core.Path.{◌≡◌, refl, ap, sym, ◌∙◌}
use mathlib.Core.Bool.{Bool}
use mathlib.Core.List.{List, map}
use native.Mathlib.Omega.{arith}
use lib.Ieee.{Float}
use lib.ListN.{length, get_or, length-map}
use Rattle.model.specs.Lists.{count_below, keep_below}
use Rattle.model.specs.Draw.{drawn, draw_usize}
use Rattle.model.specs.Kept.{least_lines, draw_from, nearest, draw_member}
use Rattle.list_laws.proofs.Bools.{and_left}
use Rattle.list_laws.proofs.Kept.{keep_below-length}
use Rattle.list_laws.proofs.Draws.{drawn-by}
use Rattle.rng_util.proofs.Draws.{drawn-below}
use Rattle.niching_array_laws.specs.Niche.{count_of, has_waiting, is_least, Open, Kth}
use Rattle.list_laws.proofs.Built.{map_at}
use Rattle.niching_array_laws.proofs.Places.{kth_is, nearest-map}
use Rattle.niching_array_laws.proofs.Least.{IsLeastOf, least_lines_is}

-- the k-th of those that pass, k drawn, is drawn from them
drawn_kth : (f : ℕ → Bool) (n k r s t : ℕ) → drawn k t ≡ draw_usize (count_below f n) s → Kth f n k r → drawn r t ≡ draw_from (keep_below f n) s
unfolding draw_from
drawn_kth f n k r s t e h =
    ap (λ v. drawn v t) (sym (kth_is f n k r h)) ∙ drawn-by (λ i. get_or (keep_below f n) i 0) (e ∙ ap (λ c. draw_usize c s) (sym (keep_below-length f n)))

-- and so is what stands at that place from what stands at them
drawn-map : (h : ℕ → ℕ) (l : List ℕ) (r s t : ℕ) → 0 < length l → drawn r t ≡ draw_from l s → drawn (h r) t ≡ draw_from (map h l) s
unfolding draw_from
drawn-map h l r s t u e =
    let d = draw_usize (length l) s in
    drawn-by h e
    ∙ sym (ap (λ c. drawn (get_or (map h l) (draw_usize c s).value 0) (draw_usize c s).state) (length-map l h)
    ∙ ap (λ v. drawn v d.state) (map_at h l d.value 0 0 (drawn-below (length l) s d.value d.state u refl)))

-- ---- a line

module _ (counts waits : List ℕ) (n m k r : ℕ) (o : IsLeastOf counts waits n m) (h : Kth (is_least counts waits m) n k r) where
  pub chosen_open : Open waits n r
  chosen_open = record { below = h.one.below; passes = and_left _ _ h.one.passes }

  pub chosen-line : (many s t : ℕ) → many ≡ count_below (is_least counts waits m) n → drawn k t ≡ draw_usize many s
      → drawn r t ≡ draw_from (least_lines (count_of counts) (keep_below (has_waiting waits) n)) s
  chosen-line many s t v e =
      drawn_kth (is_least counts waits m) n k r s t (e ∙ ap (λ c. draw_usize c s) v) h ∙ ap (λ l. draw_from l s) (sym (least_lines_is counts waits n m o))

-- ---- a member of a line, by its place

pub member-nearest : (d : ℕ → Float) (h : ℕ → ℕ) (l : List ℕ) (count r s : ℕ) → count ≡ 0 → 0 < length l → r ≡ nearest (λ i. d (h i)) l
    → drawn (h r) s ≡ draw_member d count (map h l) s
unfolding draw_member
member-nearest d h l zero r s e u v = ap (λ t. drawn t s) (ap h v ∙ sym (nearest-map d h l u))
member-nearest d h l (suc count) r s e u v = absurd (omega arith)

pub member-drawn : (d : ℕ → Float) (h : ℕ → ℕ) (f : ℕ → Bool) (n count many k r s t : ℕ) → (count ≡ 0 → ⊥) → many ≡ length (keep_below f n) → 0 < many
    → drawn k t ≡ draw_usize many s → Kth f n k r → drawn (h r) t ≡ draw_member d count (map h (keep_below f n)) s
unfolding draw_member
member-drawn d h f n zero many k r s t c v u e q = absurd (c refl)
member-drawn d h f n (suc count) many k r s t c v u e q =
    drawn-map h (keep_below f n) r s t (omega arith) (drawn_kth f n k r s t (e ∙ ap (λ m. draw_usize m s) (v ∙ keep_below-length f n)) q)
