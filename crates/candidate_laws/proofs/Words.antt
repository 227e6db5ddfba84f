-- Candidates as words: where a setting lies, that it is read back, and that words of candidates within their bounds are within them.
use Prim.Native.Nat.{ℕ, ◌+◌, ◌*◌, ◌<◌, ◌≤◌}
use mathlib.Core.Path.{◌≡◌, refl, sym, ap, ◌∙◌}
use mathlib.Core.Bool.{Bool, true, false, true≢false}
use mathlib.Core.List.{List, [], ◌++◌, map}
use native.Mathlib.Nat.{add-mul, one-mul}
use native.Mathlib.Omega.{arith}
use borrow.Author.Count.{below_more}
use lib.ListN.{length, get_or, length-map, get_or-append}
use lib.Seq.{sets}
use lib.Ieee.{binary64}
use lib.Ieee.Bits.{of_bits-to_bits}
use Rattle.list_laws.proofs.Built.{map_at, list_below-whole}
use Rattle.list_laws.proofs.Rows.{row_lt, flatten_length, flatten_at}
use Rattle.real_laws.proofs.Ints.{int_of_word-of}
use Rattle.model.specs.declared.Distribution.{Distribution}
use Rattle.model.specs.declared.Distribution.TheVariants as dist
use Rattle.model.specs.declared.ParamValue.{ParamValue}
use Rattle.model.specs.declared.ParamValue.TheVariants as value
use Rattle.model.specs.Setting.{kind_of_dimension, to_word, of_word, in_bounds, no_value, setting_of, words_of, stored_at, WordsWithin}
use Rattle.list_laws.proofs.Runs.{before_run, in_run}
use Rattle.variation_laws.proofs.Children.{Fit}
use Rattle.settings.specs.Candidate.{parent_at, parents_in}
use Rattle.candidate_laws.proofs.Sound.{Sound, AllSound}

-- ---- one setting

wrong : {C : Type 0} → false ≡ true → C
wrong e = absurd (true≢false (sym e))

-- a setting within its dimension's bounds is of its kind, so that its word hands it back
word_back : (d : Distribution) (v : ParamValue) → Fit d v → of_word (kind_of_dimension d) (to_word v) ≡ v
unfolding in_bounds
word_back (dist.Float d) (value.Float x) f = ap value.Float (of_bits-to_bits binary64 x f.1)
word_back (dist.Float d) (value.Int n) f = wrong f.0
word_back (dist.Float d) (value.Categorical c) f = wrong f.0
word_back (dist.Int d) (value.Float x) f = wrong f.0
word_back (dist.Int d) (value.Int n) f = ap value.Int (int_of_word-of n)
word_back (dist.Int d) (value.Categorical c) f = wrong f.0
word_back (dist.Categorical d) (value.Float x) f = wrong f.0
word_back (dist.Categorical d) (value.Int n) f = wrong f.0
word_back (dist.Categorical d) (value.Categorical c) f = refl

-- ---- where it lies

module _ (dims : ℕ → Distribution) (n count : ℕ) (cs : List (List ParamValue)) (a : AllSound dims n count cs) where
  row-long : (i : ℕ) → i < length (map (map to_word) cs) → length (get_or (map (map to_word) cs) i []) ≡ n
  row-long i h =
      let e = a.whole in
      let g : i < length cs = omega (arith, length-map cs (map to_word)) in
      ap length (map_at (map to_word) cs i [] [] g) ∙ length-map (get_or cs i []) to_word ∙ (a.each i (omega arith)).whole

  pub words-length : length (words_of cs) ≡ count * n
  unfolding words_of
  words-length = flatten_length n (map (map to_word) cs) row-long ∙ ap (λ (k : ℕ). k * n) (length-map cs (map to_word) ∙ a.whole)

  pub words-at : (i d : ℕ) → i < count → d < n → get_or (words_of cs) (i * n + d) 0 ≡ to_word (setting_of (get_or cs i []) d)
  unfolding words_of
  words-at i d h k =
      let e = a.whole in
      flatten_at n (map (map to_word) cs) row-long i d 0 (omega (arith, length-map cs (map to_word))) k
      ∙ ap (λ (w : List ℕ). get_or w d 0) (map_at (map to_word) cs i [] [] (omega arith))
      ∙ map_at to_word (get_or cs i []) d 0 no_value (omega (arith, (a.each i h).whole))

  -- with anything behind them, as in `over (words_of cs) old`
  module _ (rest : List ℕ) where
    words-front : (i d : ℕ) → i < count → d < n → get_or (words_of cs ++ rest) (i * n + d) 0 ≡ to_word (setting_of (get_or cs i []) d)
    words-front i d h k =
        let e = words-length in
        let p = row_lt i d count n h k in
        get_or-append (words_of cs) rest 0 (i * n + d) (omega arith) ∙ words-at i d h k

    -- read back
    pub read_back : (i d : ℕ) → i < count → d < n → stored_at dims n (words_of cs ++ rest) i d ≡ setting_of (get_or cs i []) d
    read_back i d h k =
        ap (of_word (kind_of_dimension (dims d))) (words-front i d h k)
        ∙ word_back (dims d) (setting_of (get_or cs i []) d) ((a.each i h).each d k)

    -- words of candidates within their bounds are within them
    pub words-within : WordsWithin dims n count (words_of cs ++ rest)
    words-within i d h k = ap (in_bounds (dims d)) (read_back i d h k) ∙ ((a.each i h).each d k).0

    row_back : (i : ℕ) → i < count → parent_at dims n (words_of cs ++ rest) i ≡ get_or cs i []
    unfolding parent_at
    row_back i h = list_below-whole _ n no_value (get_or cs i []) (a.each i h).whole (λ j l. read_back i j h l)

    -- and hand the candidates back
    pub parents-back : parents_in dims n (words_of cs ++ rest) count ≡ cs
    unfolding parents_in
    parents-back = list_below-whole _ count [] cs a.whole (λ i l. row_back i l)

-- ---- a candidate put behind k others

module _ (dims : ℕ → Distribution) (n k : ℕ) (c : List ParamValue) (old : List ℕ) (s : Sound dims n c) (w : WordsWithin dims n k old) (room : (k + 1) * n ≤ length old) where
  -- what lay before it stands, and it lies behind
  put-before : (i d : ℕ) → i < k → d < n → get_or (sets old (k * n) (map to_word c)) (i * n + d) 0 ≡ get_or old (i * n + d) 0
  put-before i d h l = before_run old (k * n) (map to_word c) (i * n + d) (row_lt i d k n h l)

  put-at : (d : ℕ) → d < n → get_or (sets old (k * n) (map to_word c)) (k * n + d) 0 ≡ to_word (setting_of c d)
  put-at d l =
      let m = length-map c to_word in
      let g = s.whole in
      in_run old (k * n) (map to_word c) d (omega arith) (omega (arith, add-mul k 1 n, one-mul n)) ∙ map_at to_word c d 0 no_value (omega arith)

  pub words-put : WordsWithin dims n (k + 1) (sets old (k * n) (map to_word c))
  words-put i d h l =
      let read : ℕ → Bool = λ (x : ℕ). in_bounds (dims d) (of_word (kind_of_dimension (dims d)) x) in
      below_more (λ (j : ℕ). in_bounds (dims d) (stored_at dims n (sets old (k * n) (map to_word c)) j d) ≡ true) k
      (λ j m. ap read (put-before j d m l) ∙ w j d m l)
      (ap read (put-at d l) ∙ ap (in_bounds (dims d)) (word_back (dims d) (setting_of c d) (s.each d l)) ∙ (s.each d l).0) i h
