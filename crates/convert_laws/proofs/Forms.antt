-- WHAT IS READ IS WRITTEN SO: a file's bytes are those that are written for what is read from them.
use Prim.Native.Nat.{ℕ, zero, suc, ◌+◌, ◌<◌}
use mathlib.Core.Path.{◌≡◌, refl, ap, sym, subst, ◌∙◌}
use mathlib.Core.List.{List, [], ◌∷◌, ◌++◌, map, flatten, append_assoc, append-nil}
use Rattle.list_laws.proofs.Options.{none-ne-some, some-injective}
use native.Mathlib.Omega.{arith}
use lib.ListN.{length, length-append}
use lib.Seq.{get_or-append-add}
use Rattle.model.specs.PoolFile.{Parsed, Reader, pure, onward, number, written, many, written_all, rows, row_numbers, good_setting, setting, numbered, file_by, file_numbers}
use Rattle.model.specs.Plan.{Setting}
use Rattle.model.specs.Convert.{setting_numbers, plan_numbers}
use Rattle.list_laws.proofs.Bools.{by_bool}
use Rattle.pool_number.proofs.Options.{both_read, many-zero, many_parts, many-length}
use Rattle.pool_laws.proofs.Shortest.{Bytes, read-written}
use Rattle.form_laws.specs.Writable.{Every, Word, Words, RowsOk}
use Rattle.form_laws.proofs.Lists.{written-append}
use Rattle.convert_laws.specs.Formed.{SettingOk, NumberedOk, FileOk}

-- ---- bytes, and numbers written one after the other

pub bytes_rest : (bytes text rest : List ℕ) → bytes ≡ text ++ rest → Bytes bytes → Bytes rest
bytes_rest bytes text rest e b = λ i h.
    let l = length-append text rest in
    let c = subst Bytes e b in
    subst (λ (n : ℕ). n < 256) (get_or-append-add text rest i 0) (c (length text + i) (omega arith))

-- numbers and what follows them, numbers too
pub follow : (bytes mid rest a b : List ℕ) → bytes ≡ written_all a ++ mid → mid ≡ written_all b ++ rest → bytes ≡ written_all (a ++ b) ++ rest
follow bytes mid rest a b e f =
    e ∙ ap (λ (l : List ℕ). written_all a ++ l) f ∙ sym (append_assoc (written_all a) (written_all b) rest) ∙ ap (λ (l : List ℕ). l ++ rest) (sym (written-append a b))

-- ---- readers

-- what was read is as P asks, and the bytes are those that are written for it
pub record Formed {A : Type 0} (numbers : A → List ℕ) (P : A → Type 0) (bytes : List ℕ) (a : A) (rest : List ℕ) : Type 0 where
  pub good : P a
  pub form : bytes ≡ written_all (numbers a) ++ rest

-- so of all that a reader reads
abbrev pub Forms : {A : Type 0} → Reader A → (A → List ℕ) → (A → Type 0) → Type 0
Forms {A} r numbers P = (bytes : List ℕ) (a : A) (rest : List ℕ) → Bytes bytes → r bytes ≡ pure a rest → Formed numbers P bytes a rest

abbrev pub one : ℕ → List ℕ
one n = n ∷ []

pub number_forms : Forms number one Word
unfolding written_all
number_forms bytes n rest b e =
    let w = read-written bytes n rest b e in
    record { good = w.word; form = w.form ∙ ap (λ (l : List ℕ). l ++ rest) (sym (append-nil (written n))) }

-- ---- so many of the same

module _ {A : Type 0} (r : Reader A) (numbers : A → List ℕ) (P : A → Type 0) (forms : Forms r numbers P) where
  abbrev pub all : List A → List ℕ
  all l = flatten (map numbers l)

  pub many_forms : (n : ℕ) → Forms (many n r) all (Every P)
  unfolding flatten written_all
  many_forms zero bytes l rest b e =
      let s = some-injective _ _ (sym e ∙ many-zero r bytes) in
      let u : l ≡ [] = ap (λ (p : Parsed (List A)). p.value) s in
      let w : rest ≡ bytes = ap (λ (p : Parsed (List A)). p.rest) s in
      record { good = subst (Every P) (sym u) tt; form = sym w ∙ ap (λ (k : List A). written_all (all k) ++ rest) (sym u) }
  many_forms (suc n) bytes l rest b e =
      let p = many_parts r n bytes l rest e in
      let h = p.head in
      let t = p.tail in
      let f = forms bytes h.value h.rest b p.first in
      let g = many_forms n h.rest t.value t.rest (bytes_rest bytes (written_all (numbers h.value)) h.rest f.form b) p.later in
      record {
        good = subst (Every P) (sym p.values) (f.good, g.good);
        form =
            follow bytes h.rest t.rest (numbers h.value) (all t.value) f.form g.form
            ∙ ap (λ (k : List A). written_all (all k) ++ t.rest) (sym p.values)
            ∙ ap (λ (k : List ℕ). written_all (all l) ++ k) (sym p.ends);
      }

-- numbers, so many
ones : (l : List ℕ) → flatten (map one l) ≡ l
unfolding flatten
ones [] = refl
ones (n ∷ l) = ap (λ (k : List ℕ). n ∷ k) (ones l)

pub numbers_forms : (n : ℕ) → Forms (many n number) (λ l. l) Words
numbers_forms n bytes l rest b e =
    let f = many_forms number one Word number_forms n bytes l rest b e in
    record { good = f.good; form = f.form ∙ ap (λ (k : List ℕ). written_all k ++ rest) (ones l) }

-- ---- one reader after the other

-- what follows from what the first read and what is left to the second, follows
module _ {A B C : Type 0} {numbers : A → List ℕ} {P : A → Type 0} {r : Reader A} (forms : Forms r numbers P) {k : A → Reader B} (bytes : List ℕ) (z : B)
    (rest : List ℕ) (b : Bytes bytes) where
  pub by_turn : onward (r bytes) k ≡ pure z rest
      → ((a : A) (mid : List ℕ) → r bytes ≡ pure a mid → P a → bytes ≡ written_all (numbers a) ++ mid → Bytes mid → k a mid ≡ pure z rest → C) → C
  by_turn e f =
      let q = both_read (r bytes) k _ e in
      let p = q.0 in
      let w = forms bytes p.value p.rest b q.1 in
      f p.value p.rest q.1 w.good w.form (bytes_rest bytes (written_all (numbers p.value)) p.rest w.form b) q.2

-- the last, which reads nothing
pub at_last : {A : Type 0} (numbers : A → List ℕ) (P : A → Type 0) (bytes : List ℕ) (a z : A) (mid rest : List ℕ) → pure a mid ≡ pure z rest → P a
    → bytes ≡ written_all (numbers a) ++ mid → Formed numbers P bytes z rest
at_last {A} numbers P bytes a z mid rest e g f =
    let s = some-injective _ _ e in
    subst (λ (p : Parsed A). Formed numbers P bytes p.value p.rest) s (record { good = g; form = f })

-- ---- rows

pub rows_forms : (m : ℕ) → Forms (rows m) row_numbers (RowsOk m)
unfolding rows written_all
rows_forms m bytes r rest b e =
    by_turn (numbers_forms m) bytes r rest b e (λ values s₁ r₁ g₁ f₁ b₁ e₁.
    by_turn number_forms s₁ r rest b₁ e₁ (λ c s₂ r₂ g₂ f₂ b₂ e₂.
    by_turn (numbers_forms c) s₂ r rest b₂ e₂ (λ cs s₃ r₃ g₃ f₃ b₃ e₃.
    let n : length cs ≡ c = many-length number c s₂ cs s₃ r₃ in
    at_last row_numbers (RowsOk m) bytes (record { values = values; constraints = cs }) r s₃ rest e₃
    (record { values = g₁; whole = many-length number m bytes values s₁ r₁; count = subst Word (sym n) g₂; constraints = g₃ })
    (follow bytes s₁ s₃ values (length cs ∷ cs) f₁ (follow s₁ s₂ s₃ (one (length cs)) cs (subst (λ (k : ℕ). s₁ ≡ written_all (one k) ++ s₂) (sym n) f₂) f₃)))))

-- ---- settings, and plans of the second edition

pub setting_forms : Forms setting setting_numbers SettingOk
unfolding setting
setting_forms bytes x rest b e =
    by_turn number_forms bytes x rest b e (λ param s₁ r₁ g₁ f₁ b₁ e₁.
    by_turn number_forms s₁ x rest b₁ e₁ (λ kind s₂ r₂ g₂ f₂ b₂ e₂.
    by_turn number_forms s₂ x rest b₂ e₂ (λ value s₃ r₃ g₃ f₃ b₃ e₃.
    let a : Setting = record { param = param; kind = kind; value = value } in
    by_bool (good_setting a)
    (λ t. at_last setting_numbers SettingOk bytes a x s₃ rest (rw t at e₃) (record { param = g₁; kind = g₂; value = g₃; good = t })
    (follow bytes s₁ s₃ (one param) (kind ∷ value ∷ []) f₁ (follow s₁ s₂ s₃ (one kind) (one value) f₂ f₃)))
    (λ t. absurd (none-ne-some _ (rw t at e₃))))))

pub numbered_forms : (m : ℕ) → Forms (numbered m) plan_numbers (NumberedOk m)
unfolding numbered
numbered_forms m bytes p rest b e =
    by_turn number_forms bytes p rest b e (λ n s₁ r₁ g₁ f₁ b₁ e₁.
    by_turn (rows_forms m) s₁ p rest b₁ e₁ (λ r s₂ r₂ g₂ f₂ b₂ e₂.
    by_turn number_forms s₂ p rest b₂ e₂ (λ c s₃ r₃ g₃ f₃ b₃ e₃.
    by_turn (many_forms setting setting_numbers SettingOk setting_forms c) s₃ p rest b₃ e₃ (λ xs s₄ r₄ g₄ f₄ b₄ e₄.
    let k : length xs ≡ c = many-length setting c s₃ xs s₄ r₄ in
    let t = flatten (map setting_numbers xs) in
    at_last plan_numbers (NumberedOk m) bytes (record { number = n; rows = r; settings = xs }) p s₄ rest e₄
    (record { number = g₁; rows = g₂; count = subst Word (sym k) g₃; settings = g₄ })
    (follow bytes s₁ s₄ (one n) (row_numbers r ++ (length xs ∷ t)) f₁
    (follow s₁ s₂ s₄ (row_numbers r) (length xs ∷ t) f₂
    (follow s₂ s₃ s₄ (one (length xs)) t (subst (λ (j : ℕ). s₂ ≡ written_all (one j) ++ s₃) (sym k) f₃) f₄)))))))

-- ---- files, whatever reads their plans

module _ {P : Type 0} (plan : ℕ → Reader P) (numbers : P → List ℕ) (PlanOk : ℕ → P → Type 0) (forms : (m : ℕ) → Forms (plan m) numbers (PlanOk m)) where
  pub file_forms : Forms (file_by plan) (file_numbers numbers) (FileOk PlanOk)
  unfolding file_by file_numbers
  file_forms bytes f rest b e =
      by_turn number_forms bytes f rest b e (λ m s₁ r₁ g₁ f₁ b₁ e₁.
      by_turn number_forms s₁ f rest b₁ e₁ (λ h s₂ r₂ g₂ f₂ b₂ e₂.
      by_turn number_forms s₂ f rest b₂ e₂ (λ size s₃ r₃ g₃ f₃ b₃ e₃.
      by_turn number_forms s₃ f rest b₃ e₃ (λ count s₄ r₄ g₄ f₄ b₄ e₄.
      by_turn number_forms s₄ f rest b₄ e₄ (λ seed s₅ r₅ g₅ f₅ b₅ e₅.
      by_turn (numbers_forms m) s₅ f rest b₅ e₅ (λ marks s₆ r₆ g₆ f₆ b₆ e₆.
      by_turn (many_forms (plan m) numbers (PlanOk m) (forms m) count) s₆ f rest b₆ e₆ (λ plans s₇ r₇ g₇ f₇ b₇ e₇.
      let t = flatten (map numbers plans) in
      at_last (file_numbers numbers) (FileOk PlanOk) bytes
      (record { objectives = m; divisions = h; size = size; count = count; seed = seed; marks = marks; plans = plans }) f s₇ rest e₇
      (record {
        objectives = g₁;
        divisions = g₂;
        size = g₃;
        count = g₄;
        seed = g₅;
        marks = g₆;
        marks_long = many-length number m s₅ marks s₆ r₆;
        plans = g₇;
        plans_long = many-length (plan m) count s₆ plans s₇ r₇;
      })
      (follow bytes s₁ s₇ (one m) (h ∷ size ∷ count ∷ seed ∷ (marks ++ t)) f₁
      (follow s₁ s₂ s₇ (one h) (size ∷ count ∷ seed ∷ (marks ++ t)) f₂
      (follow s₂ s₃ s₇ (one size) (count ∷ seed ∷ (marks ++ t)) f₃
      (follow s₃ s₄ s₇ (one count) (seed ∷ (marks ++ t)) f₄
      (follow s₄ s₅ s₇ (one seed) (marks ++ t) f₅ (follow s₅ s₆ s₇ marks t f₆ f₇)))))))))))))
