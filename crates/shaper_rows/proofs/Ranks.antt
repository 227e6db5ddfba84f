-- Laws of the places of the marked plans: a marked plan stands where as many marked ones come before it.
use Prim.Native.Nat.{ℕ, zero, suc, ◌+◌, ◌<◌}
use mathlib.Core.Path.{◌≡◌, refl, ap, sym, subst, ◌∙◌}
use mathlib.Core.Bool.{Bool, true, false, cond}
use mathlib.Core.List.{List, [], ◌∷◌, ◌++◌}
use native.Mathlib.Omega.{arith}
use lib.ListN.{length, get_or, set, length-append, get_or-append}
use lib.Seq.{get_or-append-add}
use Rattle.model.specs.Lists.{one, keep_below, over}
use Rattle.list_laws.proofs.Below.{last_or}
use Rattle.list_laws.proofs.Built.{over_snoc}
use Rattle.list_laws.proofs.Kept.{keep_below-more, keep_below_no, keep_below-room}

at_end : (l : List ℕ) (x : ℕ) → get_or (l ++ (x ∷ [])) (length l) 0 ≡ x
at_end l x =
    let e : length l ≡ length l + 0 = omega arith in
    ap (λ i. get_or (l ++ (x ∷ [])) i 0) e ∙ get_or-append-add l (x ∷ []) 0 0

-- THE LAW
pub place_at : (f : ℕ → Bool) (n q : ℕ) → q < n → f q ≡ true → get_or (keep_below f n) (length (keep_below f q)) 0 ≡ q
unfolding keep_below
place_at f zero q h e = absurd (omega arith)
place_at f (suc n) q h e = last_or h
    (λ same. subst (λ k. get_or (keep_below f n ++ cond (f n) (n ∷ []) []) (length (keep_below f k)) 0 ≡ k) (sym same)
    (ap (λ b. get_or (keep_below f n ++ cond b (n ∷ []) []) (length (keep_below f n)) 0) (ap f (sym same) ∙ e) ∙ at_end (keep_below f n) n))
    (λ less. get_or-append (keep_below f n) (cond (f n) (n ∷ []) []) 0 (length (keep_below f q)) (keep_below-room f n q less e) ∙ place_at f n q less e)

-- one plan more: as many as before, or one more
one-length : (b : Bool) (n : ℕ) → length (cond b (n ∷ []) []) ≡ one b
one-length true n = refl
one-length false n = refl

pub earlier_more : (f : ℕ → Bool) (n : ℕ) {b : Bool} → f n ≡ b → length (keep_below f (n + 1)) ≡ length (keep_below f n) + one b
earlier_more f n {b} e =
    ap length (keep_below-more f n e) ∙ length-append (keep_below f n) (cond b (n ∷ []) []) ∙ ap (λ k. length (keep_below f n) + k) (one-length b n)

-- the steps of a loop that lists the places
pub earlier_none : (f : ℕ → Bool) → 0 ≡ length (keep_below f 0)
unfolding keep_below
earlier_none f = refl

pub places_none : (f : ℕ → Bool) (l : List ℕ) → l ≡ over (keep_below f 0) l
unfolding keep_below
places_none f l = refl

module _ (f : ℕ → Bool) (p : ℕ) (places₀ places : List ℕ) (e : places ≡ over (keep_below f p) places₀) where
  pub places_yes : (k : ℕ) → f p ≡ true → k ≡ length (keep_below f p) → k < length places₀ → set places k p ≡ over (keep_below f (p + 1)) places₀
  places_yes k t g h =
      ap (λ l. set l k p) e ∙ over_snoc (keep_below f p) places₀ k p (sym g) h ∙ ap (λ l. over l places₀) (sym (keep_below-more f p t))

  pub places_no : f p ≡ false → places ≡ over (keep_below f (p + 1)) places₀
  places_no t = e ∙ ap (λ l. over l places₀) (sym (keep_below_no f p t))
