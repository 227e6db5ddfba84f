-- The loop over the members of a line that keeps the nearest.
use Prim.Native.Nat.{ℕ, ◌+◌, ◌<◌}
use mathlib.Core.Path.{◌≡◌, refl, ap, sym, ◌∙◌}
use mathlib.Core.Bool.{Bool, true, false, cond, ◌&&◌}
use mathlib.Core.List.{List, [], ◌∷◌, ◌++◌}
use native.Mathlib.Omega.{arith}
use lib.Ieee.{Float, lt}
use lib.ListN.{length, length-append}
use Rattle.model.specs.Lists.{keep_below}
use Rattle.model.specs.Kept.{nearest}
use Rattle.list_laws.proofs.Bools.{by_bool, by_cond, and_both, and_no}
use Rattle.list_laws.proofs.Kept.{keep_below-more, keep_below_no}
use Rattle.niching_array_laws.specs.Niche.{waits_on, place_distance, nearer_of, Passes, Kth}
use Rattle.niching_array_laws.proofs.Places.{first_only, nearest_snoc, nearest-one}

-- the three ways out of a turn, where `waits` is the answer of the test
module _ (front lines : List ℕ) (distances : List Float) (taken : List Bool) (l best i : ℕ) where
  pub nearer_yes : {waits : Bool} → waits ≡ waits_on front lines taken l i → waits ≡ true
      → lt (place_distance front distances i) (place_distance front distances best) ≡ true → i ≡ nearer_of front lines distances taken l best i
  nearer_yes e v w = ap (λ a. cond a i best) (sym (and_both _ _ (sym e ∙ v) w))

  pub nearer_far : lt (place_distance front distances i) (place_distance front distances best) ≡ false
      → best ≡ nearer_of front lines distances taken l best i
  nearer_far v = ap (λ a. cond a i best) (sym (and_no (waits_on front lines taken l i) (lt (place_distance front distances i) (place_distance front distances best)) v))

  pub nearer_no : {waits : Bool} → waits ≡ waits_on front lines taken l i → waits ≡ false → best ≡ nearer_of front lines distances taken l best i
  nearer_no e v = ap (λ a. cond (a && lt (place_distance front distances i) (place_distance front distances best)) i best) (sym v ∙ e)

-- `best` is the nearest of the places below i that pass, of which there are some
pub record NearestSo (d : ℕ → Float) (f : ℕ → Bool) (n i best : ℕ) : Type 0 where
  pub one : Passes f n best
  pub some : 0 < length (keep_below f i)
  pub least : best ≡ nearest d (keep_below f i)

pub nearest-first : (d : ℕ → Float) (f : ℕ → Bool) (n r : ℕ) → Kth f n 0 r → NearestSo d f n (r + 1) r
nearest-first d f n r h =
    let e = first_only f n r h in
    record { one = h.one; some = rw e (omega arith); least = sym (ap (nearest d) e ∙ nearest-one d r) }

module _ {d : ℕ → Float} {f : ℕ → Bool} {n i best : ℕ} (h : NearestSo d f n i best) (u : i < n) where
  -- a member that does not wait on the line changes nothing
  skipped : f i ≡ false → NearestSo d f n (i + 1) best
  skipped v =
      let k = keep_below_no f i v in
      record { one = h.one; some = rw k h.some; least = h.least ∙ sym (ap (nearest d) k) }

  -- one that does is compared with the best
  compared : f i ≡ true → (b : Bool) → lt (d i) (d best) ≡ b → NearestSo d f n (i + 1) (cond b i best)
  compared v b e = record {
    one = by_cond (Passes f n) b i best (λ w. record { below = u; passes = v }) (λ w. h.one);
    some = rw (k, length-append) (omega arith);
    least = ap (λ t. cond t i best) (sym e) ∙ ap (λ t. cond (lt (d i) (d t)) i t) h.least
        ∙ sym (ap (nearest d) k ∙ nearest_snoc d (keep_below f i) i h.some);
  }
    where
      k : keep_below f (i + 1) ≡ keep_below f i ++ (i ∷ [])
      k = keep_below-more f i v

  pub nearest-more : (r : ℕ) → r ≡ cond (f i && lt (d i) (d best)) i best → NearestSo d f n (i + 1) r
  nearest-more r e = by_bool (f i)
      (λ v. let w : r ≡ cond (lt (d i) (d best)) i best = e ∙ ap (λ b. cond (b && lt (d i) (d best)) i best) v in
      rw w (compared v (lt (d i) (d best)) refl))
      (λ v. let w : r ≡ best = e ∙ ap (λ b. cond (b && lt (d i) (d best)) i best) v in rw w (skipped v))
