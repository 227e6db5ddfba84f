-- Laws of the two dominations: irreflexive, transitive where no value is a NaN, and equal to the paper's.
use Prim.Native.Nat.{ℕ, ◌<◌}
use mathlib.Core.Path.{◌≡◌, refl, ap, sym, ◌∙◌}
use mathlib.Core.Bool.{Bool, true, false, not, ◌&&◌, false≢true, true≢false}
use mathlib.Core.Logic.{◌↔◌}
use lib.Ieee.{Float, lt}
use Rattle.model.specs.Lists.{any_below}
use Rattle.model.specs.Papers.Deb2002.{Dominates}
use Rattle.model.specs.Row.{dominates, by_feasibility}
use Rattle.list_laws.proofs.Bools.{T_true, true_T, false_T, by_bool, no_pass, and_right, and_not_left, and_no}
use Rattle.list_laws.proofs.Tests.{any_below-at, any_below-some, any_below-each, any_below_nowhere, any_below-same}
use Rattle.float_laws.proofs.Compared.{lt_trans, lt_self, lt_down, lt_past}
use Rattle.float_laws.proofs.Order.{lt→nle, nlt→le}
use Rattle.front_laws.specs.Strict.{Strict, Known}

-- ---- rows

-- "nowhere worse, somewhere better", as facts
pub dominates_nowhere : (m : ℕ) (a b : ℕ → Float) → dominates m a b ≡ true → (j : ℕ) → j < m → lt (b j) (a j) ≡ false
unfolding dominates
dominates_nowhere m a b e = any_below-each _ m (and_not_left (any_below (λ j. lt (b j) (a j)) m) (any_below (λ j. lt (a j) (b j)) m) e)

pub dominates_somewhere : (m : ℕ) (a b : ℕ → Float) → dominates m a b ≡ true → (j : ℕ) × (j < m) × (lt (a j) (b j) ≡ true)
unfolding dominates
dominates_somewhere m a b e = any_below-some _ m (and_right (not (any_below (λ j. lt (b j) (a j)) m)) (any_below (λ j. lt (a j) (b j)) m) e)

pub dominates-by : (m : ℕ) (a b : ℕ → Float) → ((j : ℕ) → j < m → lt (b j) (a j) ≡ false) → (j : ℕ) → j < m → lt (a j) (b j) ≡ true
    → dominates m a b ≡ true
unfolding dominates
dominates-by m a b h j l e =
    let x = any_below_nowhere (λ j. lt (b j) (a j)) m h in
    let y = any_below-at (λ j. lt (a j) (b j)) m j l e in
    rw (x, y)

-- one worse value settles it; and where none is worse, a better one decides
pub dominates_worse : (m : ℕ) (a b : ℕ → Float) (j : ℕ) → j < m → lt (b j) (a j) ≡ true → dominates m a b ≡ false
unfolding dominates
dominates_worse m a b j l e = let x = any_below-at (λ j. lt (b j) (a j)) m j l e in rw x

pub dominates-better : (m : ℕ) (a b : ℕ → Float) → any_below (λ j. lt (b j) (a j)) m ≡ false → dominates m a b ≡ any_below (λ j. lt (a j) (b j)) m
unfolding dominates
dominates-better m a b e = rw e

-- only the m values matter
pub dominates-same : (m : ℕ) (a a' b b' : ℕ → Float) → ((j : ℕ) → j < m → a j ≡ a' j) → ((j : ℕ) → j < m → b j ≡ b' j)
    → dominates m a b ≡ dominates m a' b'
unfolding dominates
dominates-same m a a' b b' h k =
    let x = any_below-same (λ j. lt (b j) (a j)) (λ j. lt (b' j) (a' j)) m (λ j l. ap (λ v. lt v (a j)) (k j l) ∙ ap (lt (b' j)) (h j l)) in
    let y = any_below-same (λ j. lt (a j) (b j)) (λ j. lt (a' j) (b' j)) m (λ j l. ap (λ v. lt v (b j)) (h j l) ∙ ap (lt (a' j)) (k j l)) in
    rw (x, y)

dominates-irreflexive : (m : ℕ) (a : ℕ → Float) → dominates m a a ≡ false
dominates-irreflexive m a = no_pass (dominates m a a) (λ e. let r = dominates_somewhere m a a e in true≢false (sym r.2 ∙ lt_self (a r.0)))

pub dominates-transitive : (m : ℕ) (a b c : ℕ → Float) → Known m b → Known m c
    → dominates m a b ≡ true → dominates m b c ≡ true → dominates m a c ≡ true
dominates-transitive m a b c kb kc h k =
    let s = dominates_somewhere m a b h in
    let on = dominates_nowhere m b c k in
    dominates-by m a c
    (λ j l. no_pass (lt (c j) (a j)) (λ e. true≢false (sym (lt_past (c j) (a j) (b j) e (dominates_nowhere m a b h j l) (kb j l)) ∙ on j l)))
    s.0 s.1 (lt_past (a s.0) (b s.0) (c s.0) s.2 (on s.0 s.1) (kc s.0 s.1))

-- the paper's domination
pub dominates-paper : (m : ℕ) (a b : ℕ → Float) → Known m a → Known m b → (dominates m a b ≡ true) ↔ Dominates m a b
dominates-paper m a b ka kb = (
  λ e. let s = dominates_somewhere m a b e in
      record {
        no_worse = λ j l. nlt→le (b j) (a j) (false_T _ (kb j l)) (false_T _ (ka j l)) (false_T _ (dominates_nowhere m a b e j l));
        objective = s.0;
        inside = s.1;
        better = true_T (lt (a s.0) (b s.0)) s.2;
      },
  λ h. dominates-by m a b (λ j l. no_pass (lt (b j) (a j)) (λ e. lt→nle (b j) (a j) (true_T _ e) (h.no_worse j l))) h.objective h.inside
      (T_true (lt (a h.objective) (b h.objective)) h.better),
)

-- ---- the constraint rule

-- of two violation sums at most one is the smaller
pub alone : (x y : Float) → (not (lt y x) && lt x y) ≡ lt x y
alone x y = by_bool (lt x y) (λ e. ap (λ b. not b && lt x y) (lt_down y y x (lt_self y) e)) (λ e. and_no (not (lt y x)) (lt x y) e ∙ sym e)

pub rule_irreflexive : (m : ℕ) (f : Bool) (v : Float) (a : ℕ → Float) → by_feasibility f f (lt v v) (dominates m a a) ≡ false
rule_irreflexive m true v a = dominates-irreflexive m a
rule_irreflexive m false v a = lt_self v

rule_transitive : (m : ℕ) (fa fb fc : Bool) (va vb vc : Float) (a b c : ℕ → Float) → Known m b → Known m c
    → by_feasibility fa fb (lt va vb) (dominates m a b) ≡ true → by_feasibility fb fc (lt vb vc) (dominates m b c) ≡ true
    → by_feasibility fa fc (lt va vc) (dominates m a c) ≡ true
rule_transitive m true true true va vb vc a b c kb kc h k = dominates-transitive m a b c kb kc h k
rule_transitive m true true false va vb vc a b c kb kc h k = refl
rule_transitive m true false true va vb vc a b c kb kc h k = absurd (false≢true k)
rule_transitive m true false false va vb vc a b c kb kc h k = refl
rule_transitive m false true fc va vb vc a b c kb kc h k = absurd (false≢true h)
rule_transitive m false false true va vb vc a b c kb kc h k = absurd (false≢true k)
rule_transitive m false false false va vb vc a b c kb kc h k = lt_trans va vb vc h k

-- so it is a strict order of n plans whose rows have no NaN
pub rule_strict : (m n : ℕ) (f : ℕ → Bool) (v : ℕ → Float) (a : ℕ → ℕ → Float) → ((p : ℕ) → p < n → Known m (a p))
    → Strict (λ p q. by_feasibility (f p) (f q) (lt (v p) (v q)) (dominates m (a p) (a q))) n
rule_strict m n f v a known = record {
  irreflexive = λ p l. rule_irreflexive m (f p) (v p) (a p);
  transitive = λ p q r lp lq lr h k. rule_transitive m (f p) (f q) (f r) (v p) (v q) (v r) (a p) (a q) (a r) (known q lq) (known r lr) h k;
}
