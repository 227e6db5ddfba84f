-- The least from a start is the smaller of the start and of the least from infinity: so a generation's own part stands for its pool.
use Prim.Native.Nat.{ℕ, zero, suc}
use mathlib.Core.Path.{◌≡◌, refl, sym, ap, ◌∙◌}
use mathlib.Core.Bool.{Bool, true, false, cond, true≢false}
use mathlib.Core.List.{List, [], ◌∷◌, ◌++◌}
use lib.Ieee.{Float, nan, inf, fin, lt, is_nan}
use lib.ListN.{length, get_or}
use Rattle.list_laws.proofs.Bools.{by_bool, no_pass}
use Rattle.model.specs.Lists.{best_from}
use Rattle.model.specs.Real.{infinity}
use Rattle.model.specs.Association.{Request, value_of, shapers, least_from}
use Rattle.model.specs.Window.{own_part}
use Rattle.float_laws.proofs.Compared.{lt_trans, lt_past, nan-below}
use Rattle.window_laws.specs.Run.{least_over}

-- ---- the smaller of two, the first where they are equal

abbrev pub smaller : Float → Float → Float
smaller b x = cond (lt x b) x b

-- infinity is below nothing
top_below : (b : Float) → lt infinity b ≡ false
unfolding lt
top_below nan = refl
top_below (inf true) = refl
top_below (inf false) = refl
top_below (fin s m e) = refl

top_known : is_nan infinity ≡ false
unfolding is_nan
top_known = refl

known : (x y : Float) → lt x y ≡ true → is_nan x ≡ false
known x y e = no_pass (is_nan x) (λ v. true≢false (sym e ∙ nan-below x y v))

smaller_assoc : (b x y : Float) → is_nan x ≡ false → smaller (smaller b x) y ≡ smaller b (smaller x y)
smaller_assoc b x y v = by_bool (lt x b)
    (λ h. by_bool (lt y x)
    (λ k. rw (h, k) (sym (ap (λ (c : Bool). cond c y b) (lt_trans y x b k h))))
    (λ k. rw (h, k) (sym (ap (λ (c : Bool). cond c x b) h))))
    (λ h. by_bool (lt y x)
    (λ k. rw (h, k) refl)
    (λ k. let last : lt y b ≡ false = no_pass (lt y b) (λ e. true≢false (sym (lt_past y b x e h v) ∙ k)) in
    rw (h, k) (ap (λ (c : Bool). cond c y b) last ∙ sym (ap (λ (c : Bool). cond c x b) h))))

-- ---- of a search

found_known : (f : ℕ → Float) (n : ℕ) → is_nan (best_from lt infinity f n) ≡ false
unfolding best_from
found_known f zero = top_known
found_known f (suc n) = by_bool (lt (f n) (best_from lt infinity f n))
    (λ e. ap (λ (c : Bool). is_nan (cond c (f n) (best_from lt infinity f n))) e ∙ known (f n) (best_from lt infinity f n) e)
    (λ e. ap (λ (c : Bool). is_nan (cond c (f n) (best_from lt infinity f n))) e ∙ found_known f n)

best_split : (b : Float) (f : ℕ → Float) (n : ℕ) → best_from lt b f n ≡ smaller b (best_from lt infinity f n)
unfolding best_from
best_split b f zero = sym (ap (λ (c : Bool). cond c infinity b) (top_below b))
best_split b f (suc n) =
    ap (λ (x : Float). smaller x (f n)) (best_split b f n) ∙ smaller_assoc b (best_from lt infinity f n) (f n) (found_known f n)

-- THE LAW
pub least-split : (b : Float) (r : Request) (j : ℕ) → least_from b (λ p. value_of r p j) (shapers r) ≡ smaller b (own_part r j)
unfolding own_part
least-split b r j = best_split b (λ i. value_of r (get_or (shapers r) i 0) j) (length (shapers r))

-- ---- a search from its front

pub best_front : (b : Float) (f : ℕ → Float) (n : ℕ) → best_from lt b f (suc n) ≡ best_from lt (smaller b (f 0)) (λ i. f (suc i)) n
unfolding best_from
best_front b f zero = refl
best_front b f (suc n) = ap (λ (x : Float). smaller x (f (suc n))) (best_front b f n)

-- ---- one pool more

pub over_snoc : (b : Float) (rs : List Request) (r : Request) (j : ℕ) → least_over b (rs ++ (r ∷ [])) j ≡ least_from (least_over b rs j) (λ p. value_of r p j) (shapers r)
unfolding least_over
over_snoc b [] r j = refl
over_snoc b (q ∷ rs) r j = over_snoc (least_from b (λ p. value_of q p j) (shapers q)) rs r j
