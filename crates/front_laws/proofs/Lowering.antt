-- What lowering does to a count, and whom it frees: each plan whose count is met exactly, once.
use Prim.Native.Nat.{ℕ, ◌+◌, ◌-◌, ◌≤◌, ◌<◌}
use mathlib.Core.Path.{◌≡◌, refl, ap, ap₂, sym, ◌∙◌}
use mathlib.Core.Bool.{Bool, true, false, ◌&&◌}
use mathlib.Core.List.Memᴰ
use mathlib.Core.List.{List, [], ◌∷◌, ◌++◌, append_assoc}
use native.Mathlib.Nat.{zero-add}
use native.Mathlib.Omega.{arith}
use borrow.Author.Tests.{eq-eqb, ne_eqb, eqb-true, eqb-false, lt-ltb, le-ltb}
use lib.Dec.{eqb, ltb}
use Rattle.model.specs.Front.{lower, freed, lower_all, freed_all, frees}
use Rattle.model.specs.Lists.{one, tally, In}
use Rattle.list_laws.specs.Occ.{occ, Below}
use Rattle.list_laws.proofs.Bools.{by_bool}
use Rattle.list_laws.proofs.Kept.{keep_below-same, keep_below-below, keep_below-occ}
use Rattle.list_laws.proofs.Members.{tally_nil, tally_cons, occ_nil, occ-append, below_none, below-append}

-- the members of a list lower a count by as many of them as dominate the plan
pub lower_all-count : (d : ℕ → ℕ → Bool) (l : List ℕ) (counts : ℕ → ℕ) (q : ℕ) → lower_all d l counts q ≡ counts q - tally (λ p. d p q) l
unfolding lower_all lower
lower_all-count d [] counts q = rw tally_nil (omega arith)
lower_all-count d (p ∷ ps) counts q = rw tally_cons (omega (arith, lower_all-count d ps (lower d p counts) q))

-- one list after another
pub lower_all-append : (d : ℕ → ℕ → Bool) (s t : List ℕ) (counts : ℕ → ℕ) → lower_all d (s ++ t) counts ≡ lower_all d t (lower_all d s counts)
unfolding lower_all
lower_all-append d [] t counts = refl
lower_all-append d (p ∷ s) t counts = lower_all-append d s t (lower d p counts)

pub freed_all-append : (d : ℕ → ℕ → Bool) (n : ℕ) (s t : List ℕ) (counts : ℕ → ℕ)
    → freed_all d n (s ++ t) counts ≡ freed_all d n s counts ++ freed_all d n t (lower_all d s counts)
unfolding lower_all freed_all
freed_all-append d n [] t counts = refl
freed_all-append d n (p ∷ s) t counts =
    ap (λ l. freed d n p counts ++ l) (freed_all-append d n s t (lower d p counts))
    ∙ sym (append_assoc (freed d n p counts) (freed_all d n s (lower d p counts)) (freed_all d n t (lower_all d s (lower d p counts))))

-- only what the members dominate below n matters, and the counts there
module _ (d e : ℕ → ℕ → Bool) (n : ℕ) where
  pub lower-same : (p : ℕ) (f g : ℕ → ℕ) → ((t : ℕ) → t < n → d p t ≡ e p t) → ((t : ℕ) → t < n → f t ≡ g t)
      → (t : ℕ) → t < n → lower d p f t ≡ lower e p g t
  unfolding lower
  lower-same p f g a h t l = ap₂ (λ c b. c - one b) (h t l) (a t l)

  pub freed-same : (p : ℕ) (f g : ℕ → ℕ) → ((t : ℕ) → t < n → d p t ≡ e p t) → ((t : ℕ) → t < n → f t ≡ g t) → freed d n p f ≡ freed e n p g
  unfolding freed
  freed-same p f g a h = keep_below-same _ _ n (λ t l. ap₂ (λ b c. b && eqb c 0) (a t l) (lower-same p f g a h t l))

  pub lower_all-same : (l : List ℕ) (f g : ℕ → ℕ) → ((p : ℕ) → In p l → (t : ℕ) → t < n → d p t ≡ e p t) → ((t : ℕ) → t < n → f t ≡ g t)
      → (t : ℕ) → t < n → lower_all d l f t ≡ lower_all e l g t
  unfolding lower_all
  lower_all-same [] f g a h = h
  lower_all-same (p ∷ l) f g a h =
      lower_all-same l (lower d p f) (lower e p g) (λ q m. a q (Memᴰ.tail m)) (lower-same p f g (a p (Memᴰ.head refl)) h)

  pub freed_all-same : (l : List ℕ) (f g : ℕ → ℕ) → ((p : ℕ) → In p l → (t : ℕ) → t < n → d p t ≡ e p t) → ((t : ℕ) → t < n → f t ≡ g t)
      → freed_all d n l f ≡ freed_all e n l g
  unfolding freed_all
  freed_all-same [] f g a h = refl
  freed_all-same (p ∷ l) f g a h =
      ap₂ (λ x y. x ++ y) (freed-same p f g (a p (Memᴰ.head refl)) h)
      (freed_all-same l (lower d p f) (lower e p g) (λ q m. a q (Memᴰ.tail m)) (lower-same p f g (a p (Memᴰ.head refl)) h))

-- whom one member frees
pub occ-freed : (d : ℕ → ℕ → Bool) (n p : ℕ) (counts : ℕ → ℕ) (q : ℕ) → q < n → occ q (freed d n p counts) ≡ one (frees d p counts q)
unfolding freed
occ-freed d n p counts q l = keep_below-occ _ n q l

pub freed_all-below : (d : ℕ → ℕ → Bool) (n : ℕ) (l : List ℕ) (counts : ℕ → ℕ) → Below n (freed_all d n l counts)
unfolding freed_all freed
freed_all-below d n [] counts = below_none n
freed_all-below d n (p ∷ ps) counts = below-append n (freed d n p counts) _ (keep_below-below _ n) (freed_all-below d n ps (lower d p counts))

-- a count is met by a number of dominators: it was not zero, and is that number
abbrev pub met : ℕ → ℕ → Bool
met c x = ltb 0 c && eqb c x

pub met_none : (c x : ℕ) → c ≡ 0 → met c x ≡ false
met_none c x e = rw (le-ltb 0 c (omega arith))

met-zero : (c : ℕ) → met c 0 ≡ false
met-zero c = by_bool (eqb c 0)
    (λ e. met_none c 0 (eqb-true c 0 e))
    (λ e. let z = eqb-false c 0 e in rw (lt-ltb 0 c (omega (arith, z)), e))

-- one member more, a dominator or not: the count is met now, or by those that come after
met-more : (b : Bool) (c x : ℕ) → one b + x ≤ c → one (b && eqb (c - one b) 0) + one (met (c - one b) x) ≡ one (met c (one b + x))
met-more false c x h = let e : c - 0 ≡ c = omega arith in rw (e, zero-add x, zero-add (one (met c x)))
met-more true c x h = by_bool (eqb (c - 1) 0)
    (λ e. let z = eqb-true (c - 1) 0 e in
    rw (met_none (c - 1) x z, e, lt-ltb 0 c (omega arith), eq-eqb c (1 + x) (omega arith)))
    (λ e. let z = eqb-false (c - 1) 0 e in
    by_bool (eqb (c - 1) x)
    (λ v. let w = eqb-true (c - 1) x v in
    rw (e, v, lt-ltb 0 c (omega arith), lt-ltb 0 (c - 1) (omega arith), eq-eqb c (1 + x) (omega arith)))
    (λ v. let w = eqb-false (c - 1) x v in
    rw (e, v, lt-ltb 0 c (omega arith), lt-ltb 0 (c - 1) (omega arith), ne_eqb c (1 + x) (λ k. w (omega arith)))))

-- the members of a list free a plan, once, if its count was not zero and is as many of them as dominate it
pub occ-freed_all : (d : ℕ → ℕ → Bool) (n : ℕ) (l : List ℕ) (counts : ℕ → ℕ) (q : ℕ) → q < n → tally (λ p. d p q) l ≤ counts q
    → occ q (freed_all d n l counts) ≡ one (met (counts q) (tally (λ p. d p q) l))
unfolding freed_all lower
occ-freed_all d n [] counts q u h = occ_nil q ∙ sym (rw tally_nil (ap one (met-zero (counts q))))
occ-freed_all d n (p ∷ ps) counts q u h =
    let g = tally_cons (λ p. d p q) p ps in
    let split = occ-append q (freed d n p counts) (freed_all d n ps (lower d p counts)) in
    let here = occ-freed d n p counts q u in
    let rest = occ-freed_all d n ps (lower d p counts) q u (omega arith) in
    let more = met-more (d p q) (counts q) (tally (λ p. d p q) ps) (omega arith) in
    let all = ap (λ k. one (met (counts q) k)) g in
    omega arith
