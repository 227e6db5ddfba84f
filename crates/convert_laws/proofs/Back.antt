-- WHAT IS WRITTEN IS READ, of the second edition: settings, its plans, and a file of either edition that was read.
use Prim.Native.Nat.{ℕ}
use mathlib.Core.Path.{◌≡◌, ap, ◌∙◌}
use mathlib.Core.List.{List, [], ◌∷◌, ◌++◌, map, flatten, append_assoc}
use lib.ListN.{length}
use Rattle.model.specs.Plan.{Setting}
use Rattle.model.specs.PoolFile.{Reader, pure, number, many, written, written_all, Rows, rows, row_numbers, setting, Numbered, numbered, File}
use Rattle.model.specs.Convert.{setting_numbers, plan_numbers}
use Rattle.pool_laws.proofs.Shortest.{read_back}
use Rattle.form_laws.specs.Writable.{Every, ReadBack, Word, RowsOk, Writable}
use Rattle.form_laws.proofs.Lists.{written_none, written-more, written-append, written-each, many-back}
use Rattle.form_laws.proofs.Every.{every_weaker}
use Rattle.form_laws.proofs.Forms.{rows_back}
use Rattle.convert_laws.specs.Formed.{SettingOk, NumberedOk, FileOk}

-- one number before others
number-first : (n : ℕ) (ns rest : List ℕ) → Word n → number (written_all (n ∷ ns) ++ rest) ≡ pure n (written_all ns ++ rest)
number-first n ns rest w =
    ap (λ t. number (t ++ rest)) (written-more n ns) ∙ ap number (append_assoc (written n) (written_all ns) rest) ∙ read_back n (written_all ns ++ rest) w

-- ---- settings

setting-back : (x : Setting) → SettingOk x → ReadBack setting setting_numbers x
unfolding setting
setting-back x ok rest =
    rw (
      number-first x.param (x.kind ∷ x.value ∷ []) rest ok.param,
      number-first x.kind (x.value ∷ []) rest ok.kind,
      number-first x.value [] rest ok.value,
      ok.good,
      written_none,
    )

settings-back : (xs : List Setting) (rest : List ℕ) → Every SettingOk xs → many (length xs) setting (written_all (flatten (map setting_numbers xs)) ++ rest) ≡ pure xs rest
settings-back xs rest ok =
    ap (λ t. many (length xs) setting (t ++ rest)) (written-each setting_numbers xs)
    ∙ many-back setting (λ x. written_all (setting_numbers x)) xs rest (every_weaker SettingOk (ReadBack setting setting_numbers) xs setting-back ok)

-- ---- plans

rows-first : (m : ℕ) (r : Rows) (ns rest : List ℕ) → RowsOk m r → rows m (written_all (row_numbers r ++ ns) ++ rest) ≡ pure r (written_all ns ++ rest)
rows-first m r ns rest ok =
    ap (λ t. rows m (t ++ rest)) (written-append (row_numbers r) ns) ∙ ap (rows m) (append_assoc (written_all (row_numbers r)) (written_all ns) rest)
    ∙ rows_back m r (written_all ns ++ rest) ok

pub numbered-back : (m : ℕ) (p : Numbered) → NumberedOk m p → ReadBack (numbered m) plan_numbers p
unfolding numbered
numbered-back m p ok rest =
    let n = length p.settings in
    let xs = flatten (map setting_numbers p.settings) in
    rw (
      number-first p.number (row_numbers p.rows ++ (n ∷ xs)) rest ok.number,
      rows-first m p.rows (n ∷ xs) rest ok.rows,
      number-first n xs rest ok.count,
      settings-back p.settings rest ok.settings,
    )

-- ---- files

writable : {P : Type 0} (plan : ℕ → Reader P) (numbers : P → List ℕ) (PlanOk : ℕ → P → Type 0) → ((m : ℕ) (p : P) → PlanOk m p → ReadBack (plan m) numbers p)
    → (f : File P) → FileOk PlanOk f → Writable plan numbers f
writable plan numbers PlanOk back f ok =
    record {
      objectives = ok.objectives;
      divisions = ok.divisions;
      size = ok.size;
      count = ok.count;
      seed = ok.seed;
      marks_long = ok.marks_long;
      marks = ok.marks;
      plans_long = ok.plans_long;
      plans = every_weaker (PlanOk f.objectives) (ReadBack (plan f.objectives) numbers) f.plans (back f.objectives) ok.plans;
    }

pub rows_writable : (f : File Rows) → FileOk RowsOk f → Writable rows row_numbers f
rows_writable f ok = writable rows row_numbers RowsOk (λ m r w rest. rows_back m r rest w) f ok

pub numbered_writable : (f : File Numbered) → FileOk NumberedOk f → Writable numbered plan_numbers f
numbered_writable f ok = writable numbered plan_numbers NumberedOk numbered-back f ok
