-- The code's steps as the definitions have them.
use Rattle.std.proofs.Common.{◌≡◌, ℕ, Bool, true, false, cond, ◌&&◌, ℤ, pos, negsuc, sym, ap, ◌∙◌, true≢false, le_antisymm, leb-true}
use lib.Signed.{le_z, ≤ℤ_refl}
use lib.Ieee.{Float, lt}
use Rattle.list_laws.proofs.Bools.{no_pass, and_left, and_right}
use Rattle.model.specs.declared.FloatDistribution.{FloatDistribution}
use Rattle.model.specs.declared.IntDistribution.{IntDistribution}
use Rattle.model.specs.declared.ParamValue.TheVariants as value
use Rattle.model.specs.Real.{◌⊖◌, half, absolute, of_whole}
use Rattle.model.specs.Draw.{drawn}
use Rattle.model.specs.Setting.{pair, small_gap, draw_unit, spread, sbx_first, sbx_second, to_int, cross_float, cross_int, cross_categorical}
use Rattle.list_laws.proofs.Draws.{drawn_tested}
use Rattle.settings.proofs.InBounds.{between}

pub cross_float-close : (d : FloatDistribution) (p q : Float) (k s : ℕ) → lt (absolute (p ⊖ q)) small_gap ≡ true → drawn (pair (value.Float p) (value.Float q)) s ≡ cross_float d p q k s
unfolding cross_float
cross_float-close d p q k s h = rw h

pub cross_float-apart : (d : FloatDistribution) (p q : Float) (k s : ℕ) (a b : Float) (t : ℕ) → lt (absolute (p ⊖ q)) small_gap ≡ false
    → a ≡ sbx_first d.low d.high (spread (draw_unit s).value k) p q → b ≡ sbx_second d.low d.high (spread (draw_unit s).value k) p q → t ≡ (draw_unit s).state
    → drawn (pair (value.Float a) (value.Float b)) t ≡ cross_float d p q k s
unfolding cross_float
cross_float-apart d p q k s a b t h e f g =
    rw h (λ i. drawn (pair (value.Float (e i)) (value.Float (f i))) (g i))

pub cross_int-same : (d : IntDistribution) (p q : ℤ) (k s : ℕ) → (le_z p q && le_z q p) ≡ true → drawn (pair (value.Int p) (value.Int q)) s ≡ cross_int d p q k s
unfolding cross_int
cross_int-same d p q k s h = rw h

pub cross_int-apart : (d : IntDistribution) (p q : ℤ) (k s : ℕ) (a b : ℤ) (x y : Float) (t : ℕ) → (le_z p q && le_z q p) ≡ false
    → x ≡ sbx_first (of_whole d.low) (of_whole d.high) (spread (draw_unit s).value k) (of_whole p) (of_whole q)
    → y ≡ sbx_second (of_whole d.low) (of_whole d.high) (spread (draw_unit s).value k) (of_whole p) (of_whole q)
    → a ≡ to_int d.low d.high x → b ≡ to_int d.low d.high y → t ≡ (draw_unit s).state
    → drawn (pair (value.Int a) (value.Int b)) t ≡ cross_int d p q k s
unfolding cross_int
cross_int-apart d p q k s a b x y t h e f i j g =
    let m = i ∙ ap (to_int d.low d.high) e in
    let n = j ∙ ap (to_int d.low d.high) f in
    rw h (λ i. drawn (pair (value.Int (m i)) (value.Int (n i))) (g i))

pub cross_categorical_is : (p q s : ℕ) (u : Float) (t : ℕ) (b : Bool) → drawn u t ≡ draw_unit s → lt u half ≡ b
    → drawn (cond b (pair (value.Categorical q) (value.Categorical p)) (pair (value.Categorical p) (value.Categorical q))) t ≡ cross_categorical p q s
unfolding cross_categorical
cross_categorical_is p q s u t b e h =
    drawn_tested (λ (c : Bool) (r : ℕ). drawn (cond c (pair (value.Categorical q) (value.Categorical p)) (pair (value.Categorical p) (value.Categorical q))) r) (λ (x : Float). lt x half) e h

-- equal whole numbers are at most each other, and only they
pub level : (p q : ℤ) → p ≡ q → (le_z p q && le_z q p) ≡ true
level p q e = ap (λ (z : ℤ). le_z p z && le_z z p) (sym e) ∙ between p p p (≤ℤ_refl p) (≤ℤ_refl p)

antisym : (p q : ℤ) → le_z p q ≡ true → le_z q p ≡ true → p ≡ q
antisym (pos a) (pos b) h k = ap pos (le_antisymm (leb-true a b h) (leb-true b a k))
antisym (pos a) (negsuc b) h k = absurd (true≢false (sym h))
antisym (negsuc a) (pos b) h k = absurd (true≢false (sym k))
antisym (negsuc a) (negsuc b) h k = ap negsuc (le_antisymm (leb-true a b k) (leb-true b a h))

pub apart : (p q : ℤ) → (p ≡ q → ⊥) → (le_z p q && le_z q p) ≡ false
apart p q n = no_pass (le_z p q && le_z q p) (λ e. n (antisym p q (and_left (le_z p q) (le_z q p) e) (and_right (le_z p q) (le_z q p) e)))
