-- Words for lists and numbers that the records share. Those that count up to a bound recurse from its end, as a loop that counts up adds to what it has.
use Rattle.std.specs.Prelude.{ℕ, zero, suc, ◌+◌, Bool, true, false, cond, ◌&&◌, ◌||◌, eqb, ltb, length, get_or, drop}
use mathlib.Core.List.{List, [], ◌∷◌, ◌++◌, Memᴰ, Nodup}

-- ---- the numbers below n

-- 1 for a passed test, 0 for a failed one
abbrev pub one : Bool → ℕ
one b = cond b 1 0

-- some number below n passes
unfoldable pub any_below : (ℕ → Bool) → ℕ → Bool
any_below f zero = false
any_below f (suc n) = any_below f n || f n

-- every number below n passes
unfoldable pub all_below : (ℕ → Bool) → ℕ → Bool
all_below f zero = true
all_below f (suc n) = all_below f n && f n

-- f 0 + .. + f (n - 1)
unfoldable pub sum_below : (ℕ → ℕ) → ℕ → ℕ
sum_below f zero = 0
sum_below f (suc n) = sum_below f n + f n

-- how many numbers below n pass
unfoldable pub count_below : (ℕ → Bool) → ℕ → ℕ
count_below f n = sum_below (λ t. one (f t)) n

-- the first number below n that passes; n if none does
unfoldable pub first_below : (ℕ → Bool) → ℕ → ℕ
first_below f zero = 0
first_below f (suc n) = let k = first_below f n in cond (ltb k n) k (cond (f n) n (suc n))

-- the last number below n that passes; n if none does
unfoldable pub last_below : (ℕ → Bool) → ℕ → ℕ
last_below f zero = 0
last_below f (suc n) = let k = last_below f n in cond (f n) n (cond (ltb k n) k (suc n))

-- the numbers below n that pass, rising
unfoldable pub keep_below : (ℕ → Bool) → ℕ → List ℕ
keep_below f zero = []
keep_below f (suc n) = keep_below f n ++ cond (f n) (n ∷ []) []

module _ {A : Type 0} where
  -- f 0, .., f (n - 1)
  unfoldable pub list_below : (ℕ → A) → ℕ → List A
  list_below f zero = []
  list_below f (suc n) = list_below f n ++ (f n ∷ [])

  -- f 0 ++ .. ++ f (n - 1)
  unfoldable pub join_below : (ℕ → List A) → ℕ → List A
  join_below f zero = []
  join_below f (suc n) = join_below f n ++ f n

  -- The best of b and f 0, .., f (n - 1), where `beats x y` says that x takes the place of y: of equals the first met.
  unfoldable pub best_from : (A → A → Bool) → A → (ℕ → A) → ℕ → A
  best_from beats b f zero = b
  best_from beats b f (suc n) = let so_far = best_from beats b f n in cond (beats (f n) so_far) (f n) so_far

  -- the best of b and of f at each of a list of places, in listed order, by such a test
  abbrev pub best_among : (A → A → Bool) → A → (ℕ → A) → List ℕ → A
  best_among beats b f ps = best_from beats b (λ i. f (get_or ps i 0)) (length ps)

  -- every entry passes
  unfoldable pub all_in : (A → Bool) → List A → Bool
  all_in f [] = true
  all_in f (a ∷ l) = f a && all_in f l

  -- what a lent slice holds once new entries stand at its front: what lies past them is as it was
  abbrev pub over : List A → List A → List A
  over new old = new ++ drop (length new) old

-- ---- lists of numbers

-- p is listed: as a type, and as a test
abbrev pub In : ℕ → List ℕ → Type 0
In p list = Memᴰ p list

unfoldable pub has : List ℕ → ℕ → Bool
has [] p = false
has (q ∷ qs) p = eqb q p || has qs p

-- the first place of p in a list; the list's length where it has none
abbrev pub place_in : List ℕ → ℕ → ℕ
place_in list p = first_below (λ i. eqb (get_or list i 0) p) (length list)

-- no number is listed twice
abbrev pub Distinct : List ℕ → Type 0
Distinct list = Nodup list

-- the best of a list by such a test as `best_from` takes, the first listed on a tie
abbrev pub best_in : (ℕ → ℕ → Bool) → List ℕ → ℕ
best_in beats list = best_among beats (get_or list 0 0) (λ p. p) list

-- those of a list that pass, in listed order
unfoldable pub keep : (ℕ → Bool) → List ℕ → List ℕ
keep f [] = []
keep f (p ∷ ps) = cond (f p) (p ∷ keep f ps) (keep f ps)

-- how many entries of a list pass, each as often as it is listed
unfoldable pub tally : (ℕ → Bool) → List ℕ → ℕ
tally f [] = 0
tally f (p ∷ ps) = one (f p) + tally f ps
