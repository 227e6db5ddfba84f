-- Candidates laid at a slice's front, some after the others, with the generator after them.
use mathlib.Core.Path.{◌≡◌, refl, sym, ap, subst, ◌∙◌, ap₂}
use mathlib.Core.List.{List, [], ◌∷◌, ◌++◌, map, flatten}
use Prim.Native.Nat.{ℕ, zero, suc, ◌+◌, ◌-◌, ◌*◌, ◌/◌, ◌≤◌, ◌<◌, min}
use native.Mathlib.Nat.{add-mul, one-mul, mul-le-mul_right}
use native.Mathlib.Omega.{arith}
use lib.ListN.{length, take, length-append}
use lib.Seq.{take_all, take-append-add, sets}
use Rattle.model.specs.declared.ParamValue.{ParamValue}
use Rattle.model.specs.Draw.{Drawn, drawn, in_turn}
use Rattle.list_laws.proofs.Draws.{in_turn-keeps, in_turn-more}
use Rattle.model.specs.Setting.{to_word, words_of, Operators, children, brood, broods, offspring_of, with_both}
use Rattle.list_laws.proofs.Rows.{row_within}
use Rattle.list_laws.proofs.Runs.{sets_append}
use Rattle.candidates.proofs.Laid.{words-one, LaidOut, laid_none, laid_more}

words-two : (a b : List ParamValue) → words_of (a ∷ b ∷ []) ≡ map to_word a ++ map to_word b
unfolding words_of flatten
words-two a b = ap (λ t. map to_word a ++ t) (words-one b)

-- ---- two children, or the first where there is room for it only

-- the second fits where there is one
pub second_fits : (at size n len : ℕ) → at + 1 < size → size * n ≤ len → at * n + n + n ≤ len
second_fits at size n len h l = omega (arith, row_within (at + 1) size n len h l, add-mul at 1 n, one-mul n)

module _ (a b : List ParamValue) (n at size : ℕ) (l l' l'' : List ℕ) (first : l' ≡ sets l (at * n) (map to_word a)) where
  pub both : length (map to_word a) ≡ n → at + 1 < size → l'' ≡ sets l' (at * n + n) (map to_word b) → l'' ≡ sets l (at * n) (words_of (take (size - at) (a ∷ b ∷ [])))
  both z room second =
      second ∙ ap₂ (λ x k. sets x (at * n + k) (map to_word b)) first (sym z) ∙ sym (sets_append l (at * n) (map to_word a) (map to_word b))
      ∙ ap (sets l (at * n)) (sym (words-two a b) ∙ ap words_of (sym (take_all (size - at) (a ∷ b ∷ []) (omega arith))))

  pub one : at < size → size ≤ at + 1 → l' ≡ sets l (at * n) (words_of (take (size - at) (a ∷ b ∷ [])))
  one h room =
      let e : size - at ≡ 1 = omega arith in
      first ∙ ap (sets l (at * n)) (sym (words-one a) ∙ ap (λ k. words_of (take k (a ∷ b ∷ []))) (sym e))

-- ---- offspring

module _ (o : Operators) (parents : List (List ParamValue)) (ranks : ℕ → ℕ) (s : ℕ) where
  broods-length : (k : ℕ) → length (broods o parents ranks k s).value ≡ 2 * k
  broods-length k = in_turn-keeps with_both [] (λ i born. brood o parents ranks) (λ i born. length born ≡ 2 * i) s k refl (λ i born t l e. length-append born _ ∙ omega arith)

  module _ (size : ℕ) where
    -- those of so many broods that the size has room for
    abbrev pub bred_by : ℕ → Drawn (List (List ParamValue))
    bred_by k = drawn (take size (broods o parents ranks k s).value) (broods o parents ranks k s).state

    pub bred-done : bred_by ((size + 1) / 2) ≡ offspring_of o parents ranks size s
    unfolding offspring_of
    bred-done = refl

    all-so_far : (k : ℕ) → 2 * k < size → take size (broods o parents ranks k s).value ≡ (broods o parents ranks k s).value
    all-so_far k h = take_all size (broods o parents ranks k s).value (omega (arith, broods-length k))

    bred-next : (k : ℕ) → 2 * k < size → (a b : List ParamValue) (u : ℕ) → drawn (children a b) u ≡ brood o parents ranks (broods o parents ranks k s).state
        → bred_by (k + 1) ≡ drawn ((bred_by k).value ++ take (size - 2 * k) (a ∷ b ∷ [])) u
    bred-next k h a b u e =
        let bs = (broods o parents ranks k s).value in
        let z = broods-length k in
        let f : length bs + (size - 2 * k) ≡ size = omega arith in
        ap (λ (d : Drawn (List (List ParamValue))). drawn (take size d.value) d.state)
        (sym (in_turn-more with_both [] (λ i born. brood o parents ranks) k s refl e))
        ∙ ap (λ l. drawn l u) (ap (λ j. take j (bs ++ (a ∷ b ∷ []))) (sym f) ∙ take-append-add bs (a ∷ b ∷ []) (size - 2 * k) ∙ ap (λ l. l ++ take (size - 2 * k) (a ∷ b ∷ [])) (sym (all-so_far k h)))

    pub bred_none : (old : List ℕ) (n : ℕ) → LaidOut old (min (2 * 0) size * n) (bred_by 0) old s
    unfolding in_turn
    bred_none old n =
        let m : 0 ≡ min (2 * 0) size = omega arith in
        subst (λ l. LaidOut old (min (2 * 0) size * n) (drawn l s) old s) (sym (take_all size [] (omega arith))) (subst (λ k. LaidOut old (k * n) (drawn [] s) old s) m (laid_none old n s))

    module _ (n : ℕ) (a b : List ParamValue) (za : length (map to_word a) ≡ n) (zb : length (map to_word b) ≡ n) where
      -- their words
      room-words : (r : ℕ) → length (words_of (take r (a ∷ b ∷ []))) ≡ min r 2 * n
      unfolding words_of flatten
      room-words zero = let e : min 0 2 ≡ 0 = omega arith in omega (arith, ap (λ j. j * n) e)
      room-words (suc zero) =
          let e : min 1 2 ≡ 1 = omega arith in
          ap length (words-one a) ∙ za ∙ sym (one-mul n) ∙ ap (λ j. j * n) (sym e)
      room-words (suc (suc r)) =
          let e : min (suc (suc r)) 2 ≡ 2 = omega arith in
          ap (λ l. length (words_of (a ∷ b ∷ l))) (take_all r [] (omega arith)) ∙ ap length (words-two a b) ∙ length-append (map to_word a) (map to_word b)
          ∙ omega (arith, ap (λ j. j * n) e)

      pub bred-more : (old : List ℕ) (k : ℕ) (out : List ℕ) (t : ℕ) → LaidOut old (min (2 * k) size * n) (bred_by k) out t → 2 * k < size → size * n ≤ length old
          → (u : ℕ) (out' : List ℕ) → drawn (children a b) u ≡ brood o parents ranks t → out' ≡ sets out (2 * k * n) (words_of (take (size - 2 * k) (a ∷ b ∷ [])))
          → LaidOut old (min (2 * (k + 1)) size * n) (bred_by (k + 1)) out' u
      bred-more old k out t h room fits u out' e put =
          let m : min (2 * k) size ≡ 2 * k = omega arith in
          let r : 2 * k + min (size - 2 * k) 2 ≡ min (2 * (k + 1)) size = omega arith in
          let q : 2 * k * n + min (size - 2 * k) 2 * n ≡ min (2 * (k + 1)) size * n = sym (add-mul (2 * k) (min (size - 2 * k) 2) n) ∙ ap (λ j. j * n) r in
          let fit : min (2 * (k + 1)) size * n ≤ size * n = mul-le-mul_right {m = min (2 * (k + 1)) size} {n = size} n (omega arith) in
          let g = subst (λ j. LaidOut old (j * n) (bred_by k) out t) m h in
          let x = laid_more old (2 * k * n) (bred_by k) out t g (take (size - 2 * k) (a ∷ b ∷ [])) (min (size - 2 * k) 2 * n) out' u (room-words (size - 2 * k)) (omega (arith, q, fit)) put in
          subst (λ d. LaidOut old (min (2 * (k + 1)) size * n) d out' u) (sym (bred-next k room a b u (e ∙ ap (brood o parents ranks) h.state)))
          (subst (λ j. LaidOut old j (drawn ((bred_by k).value ++ take (size - 2 * k) (a ∷ b ∷ [])) u) out' u) q x)
