-- From one edition to the other and back: what is turned forwards turns back, and what turns back is what was turned forwards.
use Prim.Native.Nat.{ℕ, suc, ◌+◌, ◌^◌, ◌≤◌, ◌%◌}
use mathlib.Core.Path.{◌≡◌, refl, ap, ap₂, sym, ◌∙◌}
use mathlib.Core.Bool.{Bool, true}
use mathlib.Core.List.{List, [], ◌∷◌, ◌++◌, map, flatten, append_assoc}
use native.Mathlib.Omega.{arith}
use borrow.Author.Tests.{eqb-true, eq-eqb, ne_eqb, lt-ltb, le-ltb}
use lib.Dec.{eqb}
use lib.ListN.{length, length-map}
use Rattle.model.specs.Plan.{Setting}
use Rattle.model.specs.PoolFile.{Rows, File, Numbered, written, written_all, groups_of, opens_second, file_numbers}
use Rattle.model.specs.Convert.{numbered_from, forwards, plain_from, turns_back, backwards}
use Rattle.list_laws.proofs.Bools.{and_left, and_right}
use Rattle.list_laws.proofs.Below.{by_lt}
use Rattle.form_laws.specs.Writable.{Every, RowsOk}
use Rattle.convert_laws.specs.Formed.{NumberedOk, FileOk}

-- ---- plans

pub plain_forwards : (n : ℕ) (rs : List Rows) → plain_from n (numbered_from n rs) ≡ true
unfolding plain_from numbered_from
plain_forwards n [] = refl
plain_forwards n (r ∷ rs) = rw (eq-eqb n n refl) (plain_forwards (suc n) rs)

pub rows-forwards : (n : ℕ) (rs : List Rows) → map (λ p. p.rows) (numbered_from n rs) ≡ rs
unfolding numbered_from
rows-forwards n [] = refl
rows-forwards n (r ∷ rs) = ap (λ (l : List Rows). r ∷ l) (rows-forwards (suc n) rs)

-- a list of no entry is the empty one
none_there : (xs : List Setting) → eqb (length xs) 0 ≡ true → xs ≡ []
none_there [] e = refl
none_there (x ∷ xs) e = absurd (omega (arith, eqb-true (length (x ∷ xs)) 0 e))

pub plain_back : (n : ℕ) (ps : List Numbered) → plain_from n ps ≡ true → numbered_from n (map (λ p. p.rows) ps) ≡ ps
unfolding plain_from numbered_from
plain_back n [] e = refl
plain_back n (p ∷ ps) e =
    let a = and_left (eqb p.number n) _ e in
    let t = and_right (eqb p.number n) _ e in
    let c = and_left (eqb (length p.settings) 0) _ t in
    let q : numbered_from (suc n) (map (λ p. p.rows) ps) ≡ ps = plain_back (suc n) ps (and_right (eqb (length p.settings) 0) _ t) in
    let k : n ≡ p.number = sym (eqb-true p.number n a) in
    let x : [] ≡ p.settings = sym (none_there p.settings c) in
    ap₂ (λ (i : ℕ) (xs : List Setting). record { number = i; rows = p.rows; settings = xs } ∷ numbered_from (suc n) (map (λ p. p.rows) ps)) k x ∙ ap (λ (l : List Numbered). p ∷ l) q

-- ---- files

pub back-of-forwards : (f : File Rows) → backwards (forwards f) ≡ f
back-of-forwards f = ap (λ (rs : List Rows). record { objectives = f.objectives; divisions = f.divisions; size = f.size; count = f.count; seed = f.seed; marks = f.marks; plans = rs }) (rows-forwards 0 f.plans)

pub forwards-of-back : (f : File Numbered) → turns_back f ≡ true → forwards (backwards f) ≡ f
unfolding turns_back
forwards-of-back f e =
    ap (λ (ps : List Numbered). record { objectives = f.objectives; divisions = f.divisions; size = f.size; count = f.count; seed = f.seed; marks = f.marks; plans = ps })
    (plain_back 0 f.plans (and_left (plain_from 0 f.plans) _ e))

pub forwards_turns : (f : File Rows) → (f.objectives ≡ 64 → ⊥) → turns_back (forwards f) ≡ true
unfolding turns_back
forwards_turns f h = rw (plain_forwards 0 f.plans, ne_eqb f.objectives 64 h)

-- ---- their numbers are words

each-numbered : (m n : ℕ) (rs : List Rows) → n + length rs ≤ 2 ^ 64 → Every (RowsOk m) rs → Every (NumberedOk m) (numbered_from n rs)
unfolding numbered_from
each-numbered m n [] h w = tt
each-numbered m n (r ∷ rs) h w = (record { number = omega arith; rows = w.0; count = omega arith; settings = tt }, each-numbered m (suc n) rs (omega arith) w.1)

numbered-length : (n : ℕ) (rs : List Rows) → length (numbered_from n rs) ≡ length rs
unfolding numbered_from
numbered-length n [] = refl
numbered-length n (r ∷ rs) = ap suc (numbered-length (suc n) rs)

pub forwards-words : (f : File Rows) → FileOk RowsOk f → FileOk NumberedOk (forwards f)
forwards-words f w =
    record {
      objectives = w.objectives;
      divisions = w.divisions;
      size = w.size;
      count = w.count;
      seed = w.seed;
      marks = w.marks;
      marks_long = w.marks_long;
      plans = each-numbered f.objectives 0 f.plans (omega (arith, w.plans_long, w.count)) w.plans;
      plans_long = numbered-length 0 f.plans ∙ w.plans_long;
    }

each_rows : (m : ℕ) (ps : List Numbered) → Every (NumberedOk m) ps → Every (RowsOk m) (map (λ p. p.rows) ps)
each_rows m [] w = tt
each_rows m (p ∷ ps) w = (w.0.rows, each_rows m ps w.1)

pub backwards-words : (f : File Numbered) → FileOk NumberedOk f → FileOk RowsOk (backwards f)
backwards-words f w =
    record {
      objectives = w.objectives;
      divisions = w.divisions;
      size = w.size;
      count = w.count;
      seed = w.seed;
      marks = w.marks;
      marks_long = w.marks_long;
      plans = each_rows f.objectives f.plans w.plans;
      plans_long = length-map f.plans (λ p. p.rows) ∙ w.plans_long;
    }

-- ---- the byte that a file opens with

-- the first byte of a number is 64 where the number is, and nowhere else
opens : (n : ℕ) (rest : List ℕ) → (t : Bool) → eqb n 64 ≡ t → opens_second (written n ++ rest) ≡ t
unfolding groups_of
opens n rest t e = by_lt n 128
    (λ l. rw (lt-ltb n 128 l) e)
    (λ l. rw (le-ltb n 128 l) (ne_eqb (n % 128 + 128) 64 (λ z. omega arith) ∙ sym (ne_eqb n 64 (λ z. omega arith)) ∙ e))

pub opens_with : {P : Type 0} (numbers : P → List ℕ) (f : File P) (rest : List ℕ) → opens_second (written_all (file_numbers numbers f) ++ rest) ≡ eqb f.objectives 64
unfolding written_all file_numbers
opens_with numbers f rest =
    let more = f.divisions ∷ f.size ∷ f.count ∷ f.seed ∷ (f.marks ++ flatten (map numbers f.plans)) in
    ap opens_second (append_assoc (written f.objectives) (written_all more) rest) ∙ opens f.objectives (written_all more ++ rest) _ refl
