-- WHAT THE PRINTED TEXT TELLS: the plan count, the kept list's length, and each plan's front, line and place of first keeping. So where no plan is kept
-- twice it tells the kept list, and `Demand3` of `choose` speaks of the list that is printed. What a padded list repeats it does not tell.
use Prim.Native.Nat.{ℕ, zero, suc, ◌+◌, ◌*◌, ◌-◌, ◌%◌, ◌≤◌, ◌<◌}
use mathlib.Core.Path.{◌≡◌, refl, ap, sym, ◌∙◌}
use mathlib.Core.Bool.{false}
use mathlib.Core.Logic.{◌⊎◌, ⊎_elim}
use mathlib.Core.List.{List, [], ◌∷◌, ◌++◌, append_assoc, append-nil, append_cancel_left}
use native.Mathlib.Nat.{not-suc-le-zero}
use native.Mathlib.Omega.{arith}
use borrow.Author.Tests.{eqb-true, eqb-false}
use lib.Dec.{eqb}
use lib.ListN.{length, get_or}
use lib.Seq.{ext_get_or}
use Rattle.model.specs.Lists.{list_below, join_below, first_below, In, Distinct}
use Rattle.model.specs.Kept.{Selected, without_line}
use Rattle.model.specs.PoolFile.{ascii, digits_of, decimal, line_text, place_of, plan_text, listing_text}
use Rattle.model.specs.Calls.{Listable}
use Rattle.model.specs.Refusal.{max_lines}
use Rattle.list_laws.proofs.Bools.{by_bool}
use Rattle.list_laws.proofs.Members.{get_d_in}
use Rattle.pool_laws.specs.Text.{listed, fields_text, plans_word, kept_word}
use Rattle.pool_laws.proofs.Decimals.{digits_by, limit, line-by}
use Rattle.pool_laws.proofs.Places.{place_le, kept_there, place-once}
use Rattle.pool_laws.proofs.Listing.{header-text, plan-text}

-- ---- words, each ended by a space or a newline

-- every byte is past the space
abbrev Visible : List ℕ → Type 0
Visible [] = Unit {0}
Visible (b ∷ l) = (32 < b) × Visible l

visible_append : (s t : List ℕ) → Visible s → Visible t → Visible (s ++ t)
visible_append [] t v w = w
visible_append (b ∷ s) t v w = (v.0, visible_append s t v.1 w)

-- two texts that begin with a word each: the words are one, and what follows is
record Cut (v w s t : List ℕ) : Type 0 where
  pub word : v ≡ w
  pub rest : s ≡ t

cut : (v w : List ℕ) (e : ℕ) (s t : List ℕ) → e ≤ 32 → Visible v → Visible w → v ++ (e ∷ s) ≡ w ++ (e ∷ t) → Cut v w s t
cut [] [] e s t h x y q = record { word = refl; rest = cc }
cut [] (c ∷ w) e s t h x y q = let z : e ≡ c = cc in absurd (omega (arith, y.0))
cut (b ∷ v) [] e s t h x y q = let z : b ≡ e = cc in absurd (omega (arith, x.0))
cut (b ∷ v) (c ∷ w) e s t h x y q =
    let f : b ≡ c = cc in
    let g : v ++ (e ∷ s) ≡ w ++ (e ∷ t) = cc in
    let r = cut v w e s t h x.1 y.1 g in
    record { word = ap (λ (l : List ℕ). b ∷ l) r.word ∙ ap (λ (k : ℕ). k ∷ w) f; rest = r.rest }

-- ---- a number in decimal is read back

abbrev value_from : ℕ → List ℕ → ℕ
value_from n [] = n
value_from n (b ∷ l) = value_from (n * 10 + (b - 48)) l

value_snoc : (l : List ℕ) (n b : ℕ) → value_from n (l ++ (b ∷ [])) ≡ value_from n l * 10 + (b - 48)
value_snoc [] n b = refl
value_snoc (c ∷ l) n b = value_snoc l (n * 10 + (c - 48)) b

digits_value : (d n : ℕ) → n < limit d → value_from 0 (digits_of d n) ≡ n
digits_value = digits_by (λ d n l. n < limit d → value_from 0 l ≡ n)
    (λ n h. omega arith)
    (λ d n u h. omega arith)
    (λ d n l u f h. value_snoc l 0 (48 + n % 10) ∙ omega (arith, f (omega arith)))

digits_visible : (d n : ℕ) → Visible (digits_of d n)
digits_visible = digits_by (λ d n l. Visible l)
    (λ n. tt)
    (λ d n u. (omega arith, tt))
    (λ d n l u v. visible_append l ((48 + n % 10) ∷ []) v (omega arith, tt))

decimal-same : (n m : ℕ) → n < 10000 → m < 10000 → decimal n ≡ decimal m → n ≡ m
decimal-same n m h g e = sym (digits_value 20 n (omega arith)) ∙ ap (value_from 0) e ∙ digits_value 20 m (omega arith)

numbers : (n m e : ℕ) (s t : List ℕ) → e ≤ 32 → decimal n ++ (e ∷ s) ≡ decimal m ++ (e ∷ t) → Cut (decimal n) (decimal m) s t
numbers n m e s t h q = cut (decimal n) (decimal m) e s t h (digits_visible 20 n) (digits_visible 20 m) q

-- ---- a line's number or `-`

line_visible : (l : ℕ) → Visible (line_text l)
line_visible l = line-by Visible l (omega arith, tt) (λ z. digits_visible 20 l)

-- no number is written as the dash: it would be read back as 0, which is written otherwise
dash_not : (n : ℕ) → n < 10000 → ascii "-" ≡ decimal n → ⊥
unfolding ascii list_below digits_of
dash_not n h e =
    let z : 0 ≡ n = ap (value_from 0) e ∙ digits_value 20 n (omega arith) in
    let d : ◌≡◌ {A = List ℕ} (45 ∷ []) (48 ∷ []) = e ∙ ap decimal (sym z) in
    let c : ◌≡◌ {A = ℕ} 45 48 = cc in
    omega arith

line_same : (l m : ℕ) → (l ≤ max_lines) ⊎ (l ≡ without_line) → (m ≤ max_lines) ⊎ (m ≡ without_line) → line_text l ≡ line_text m → l ≡ m
unfolding line_text
line_same l m h g e = by_bool (eqb l without_line)
    (λ u. by_bool (eqb m without_line)
    (λ v. eqb-true l without_line u ∙ sym (eqb-true m without_line v))
    (λ v. absurd (dash_not m (below m g v) (rw (u, v) at e))))
    (λ u. by_bool (eqb m without_line)
    (λ v. absurd (dash_not l (below l h u) (sym (rw (u, v) at e))))
    (λ v. decimal-same l m (below l h u) (below m g v) (rw (u, v) at e)))
  where
    below : (k : ℕ) → (k ≤ max_lines) ⊎ (k ≡ without_line) → eqb k without_line ≡ false → k < 10000
    below k s f = ⊎_elim (λ a. omega arith) (λ a. absurd (eqb-false k without_line f a)) s

-- ---- a plan's line

-- what two lines of a plan that are one text have in common
pub record Line (a b : Selected) (p : ℕ) : Type 0 where
  pub front : get_or a.fronts p 0 ≡ get_or b.fronts p 0
  pub line : get_or a.lines p 0 ≡ get_or b.lines p 0
  pub place : place_of a.kept p ≡ place_of b.kept p

-- a line as its words, before what follows it
plan-words : (a : Selected) (p : ℕ) (s : List ℕ) → plan_text a p ++ s
    ≡ decimal p ++ (32 ∷ (decimal (get_or a.fronts p 0) ++ (32 ∷ (line_text (get_or a.lines p 0) ++ (32 ∷ (decimal (place_of a.kept p) ++ (10 ∷ s)))))))
unfolding fields_text
plan-words a p s = rw plan-text (simp append_assoc)

line-told : (n m : ℕ) (a b : Selected) → Listable n a → Listable m b → (p : ℕ) → p < n → p < m → (s t : List ℕ) → plan_text a p ++ s ≡ plan_text b p ++ t → Line a b p × (s ≡ t)
line-told n m a b x y p h g s t e =
    let w = numbers p p 32 _ _ (omega arith) (sym (plan-words a p s) ∙ e ∙ plan-words b p t) in
    let f = numbers (get_or a.fronts p 0) (get_or b.fronts p 0) 32 _ _ (omega arith) w.rest in
    let l = cut (line_text (get_or a.lines p 0)) (line_text (get_or b.lines p 0)) 32 _ _ (omega arith) (line_visible (get_or a.lines p 0)) (line_visible (get_or b.lines p 0)) f.rest in
    let k = numbers (place_of a.kept p) (place_of b.kept p) 10 _ _ (omega arith) l.rest in (
      record {
        front = decimal-same _ _ (omega (arith, x.fronts p h)) (omega (arith, y.fronts p g)) f.word;
        line = line_same _ _ (x.lines p h) (y.lines p g) l.word;
        place = decimal-same _ _ (omega (arith, place_le a.kept p, x.kept)) (omega (arith, place_le b.kept p, y.kept)) k.word;
      },
      k.rest,
    )

-- ---- the lines of all plans

-- joined texts, the first before the others
join_first : (f : ℕ → List ℕ) (n : ℕ) → join_below f (suc n) ≡ f 0 ++ join_below (λ p. f (suc p)) n
unfolding join_below
join_first f zero = sym (append-nil (f 0))
join_first f (suc n) = ap (λ (l : List ℕ). l ++ f (suc n)) (join_first f n) ∙ append_assoc (f 0) (join_below (λ p. f (suc p)) n) (f (suc n))

-- where each text tells something and where it ends, the joined texts tell it of all
each : (n : ℕ) (f g : ℕ → List ℕ) (Told : ℕ → Type 0) → ((p : ℕ) → p < n → (s t : List ℕ) → f p ++ s ≡ g p ++ t → Told p × (s ≡ t))
    → join_below f n ≡ join_below g n → (p : ℕ) → p < n → Told p
each zero f g Told c e p h = absurd (not-suc-le-zero h)
each (suc n) f g Told c e zero h = (c 0 (omega arith) _ _ (sym (join_first f n) ∙ e ∙ join_first g n)).0
each (suc n) f g Told c e (suc p) h =
    each n (λ i. f (suc i)) (λ i. g (suc i)) (λ i. Told (suc i)) (λ i u. c (suc i) (omega arith))
    (c 0 (omega arith) _ _ (sym (join_first f n) ∙ e ∙ join_first g n)).1 p (omega arith)

-- ---- the listing

-- what two listings that are one text have in common
pub record Told (n m : ℕ) (a b : Selected) : Type 0 where
  pub count : n ≡ m
  pub size : length a.kept ≡ length b.kept
  pub plans : (p : ℕ) → p < n → Line a b p

-- a listing as the header's words and the lines after them
listing-words : (n : ℕ) (a : Selected) → listing_text n a
    ≡ plans_word ++ (decimal n ++ (32 ∷ (kept_word ++ (decimal (length a.kept) ++ (10 ∷ join_below (plan_text a) n)))))
unfolding listing_text
listing-words n a = rw header-text (simp append_assoc)

pub text_tells : (n m : ℕ) (a b : Selected) → Listable n a → Listable m b → listing_text n a ≡ listing_text m b → Told n m a b
text_tells n m a b x y e =
    let c = numbers n m 32 _ _ (omega arith) (append_cancel_left plans_word _ _ (sym (listing-words n a) ∙ e ∙ listing-words m b)) in
    let k = numbers (length a.kept) (length b.kept) 10 _ _ (omega arith) (append_cancel_left kept_word _ _ c.rest) in
    let o : n ≡ m = decimal-same n m (omega (arith, x.plans)) (omega (arith, y.plans)) c.word in
    record {
      count = o;
      size = decimal-same _ _ (omega (arith, x.kept)) (omega (arith, y.kept)) k.word;
      plans = each n (plan_text a) (plan_text b) (Line a b) (λ p h s t v. line-told n m a b x y p h (omega arith) s t v) (k.rest ∙ ap (join_below (plan_text b)) (sym o));
    }

-- ---- the kept list

-- a list of different plans of the pool is told by their places
pub same-list : (n : ℕ) (l k : List ℕ) → Distinct l → ((p : ℕ) → In p l → p < n) → length l ≡ length k
    → ((p : ℕ) → p < n → place_of l p ≡ place_of k p) → l ≡ k
same-list n l k d inside e f =
    ext_get_or 0 l k e (λ i h. sym (kept_there k (get_or l i 0) i (sym (f (get_or l i 0) (inside _ (get_d_in l i h))) ∙ place-once l d i h)))

-- a padded list is not told: whether the third of two plans' three places has plan 0 or plan 1, the text is the same
pub padding_hidden : (fronts lines : List ℕ) → listing_text 2 (listed (0 ∷ 1 ∷ 0 ∷ []) fronts lines) ≡ listing_text 2 (listed (0 ∷ 1 ∷ 1 ∷ []) fronts lines)
unfolding listing_text join_below plan_text place_of first_below
padding_hidden fronts lines = refl
