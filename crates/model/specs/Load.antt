-- Document 02, M-106, "A trial load anyone can rebuild": seven numbers in, a pool file out, and what the call that writes it owes.
use Rattle.std.specs.Prelude.{ℕ, zero, suc, ◌≤◌, ◌≡◌, Bool, not, ◌&&◌, ◌||◌, List, [], ◌∷◌, map, leb, ltb, Float, length, replicate, Option, None, Some}
use Rattle.model.specs.declared.Refusal.{Refusal}
use Rattle.model.specs.declared.Refusal.TheVariants as why
use Rattle.model.specs.declared.Edition.TheVariants.{First}
use Rattle.model.specs.Real.{◌⊖◌, bits, half}
use Rattle.model.specs.Draw.{Drawn, drawn, step, draw_f64, draw_all}
use Rattle.model.specs.Plan.{Plan, measured_plan, max_objectives, max_constraints}
use Rattle.model.specs.PoolFile.{Reader, pure, ◌>>=◌, number, Rows, File, PoolFile, first_form, wholly, parse, max_file}
use Rattle.model.specs.Refusal.{check, first_of, bad_size, bad_divisions, bad_count, choose_refusal}
use Rattle.model.specs.Calls.{ChooseExit, choose_by, refused_by, handed_out, printed_by, max_text}

-- ---- the generator, further on

-- "It starts k words further on, k any word and 0 for none": the state k words on is k steps on
unfoldable pub ahead : ℕ → ℕ → ℕ
ahead zero s = s
ahead (suc k) s = step (ahead k s)

-- ---- the seven numbers

-- "m, H, size, plan count, constraint count, seed and k, read in the pool file's number form"
pub record Load : Type 0 where
  pub objectives : ℕ
  pub divisions : ℕ
  pub size : ℕ
  pub count : ℕ
  pub constraints : ℕ
  pub seed : ℕ
  pub skip : ℕ

unfoldable pub load : Reader Load
load = do
  m ← number
  h ← number
  size ← number
  count ← number
  constraints ← number
  seed ← number
  k ← number
  pure (record { objectives = m; divisions = h; size = size; count = count; constraints = constraints; seed = seed; skip = k })

-- "broken input meets 1": seven numbers, and nothing behind them
unfoldable pub parse_load : List ℕ → Option Load
parse_load bytes = wholly (load bytes)

-- ---- the plans drawn

-- "a value is one `f64()` draw and a constraint is a draw less 0.5"
unfoldable pub draw_constraint : ℕ → Drawn Float
draw_constraint s = let d = draw_f64 s in drawn (d.value ⊖ half) d.state

-- "all values of plan 0, then its constraints": m values, then c constraints
unfoldable pub draw_plan : ℕ → ℕ → ℕ → Drawn Plan
draw_plan m c s =
    let row = draw_all (λ j values. draw_f64) m s in
    let constraints = draw_all (λ j values. draw_constraint) c row.state in
    drawn (measured_plan m row.value c constraints.value) constraints.state

-- ".. then plan 1 and so on"
unfoldable pub draw_plans : Load → Drawn (List Plan)
draw_plans l = draw_all (λ p plans. draw_plan l.objectives l.constraints) l.count (ahead l.skip l.seed)

-- "All are minimised, and the seed field holds the state after the last draw."
unfoldable pub load_pool : Load → PoolFile
load_pool l =
    let d = draw_plans l in
    record {
      objectives = l.objectives;
      divisions = l.divisions;
      size = l.size;
      count = l.count;
      seed = d.state;
      marks = replicate l.objectives 0;
      plans = d.value;
    }

-- ---- the file written

-- the numbers that stand for a plan, and for a pool
abbrev pub rows_of : Plan → Rows
rows_of p = record { values = map bits p.row; constraints = map bits p.constraints }

abbrev pub form_of : PoolFile → File Rows
form_of f = record {
  objectives = f.objectives;
  divisions = f.divisions;
  size = f.size;
  count = f.count;
  seed = f.seed;
  marks = f.marks;
  plans = map rows_of f.plans;
}

unfoldable pub load_text : Load → List ℕ
load_text l = first_form (form_of (load_pool l))

-- ---- refusals

-- "counts that refusal 2, 3, 4, 7 or 8 would turn down in `choose`"
unfoldable pub bad_counts : Load → Bool
bad_counts l =
    not (leb 1 l.objectives && leb l.objectives max_objectives)
    || (bad_size l.size || (bad_divisions l.objectives l.divisions || (bad_count First l.count || ltb max_constraints l.constraints)))

-- 13. ".. or a file over 65,536 bytes"
unfoldable pub bad_load : Load → Bool
bad_load l = bad_counts l || ltb max_file (length (load_text l))

-- a slice is too short (10) for a file that there is, so 13 comes first
unfoldable pub filed_refusal : Load → ℕ → Option Refusal
filed_refusal l room = first_of (
    check why.Load (bad_load l)
    ∷ check why.Room (ltb room (length (load_text l)))
    ∷ [])

abbrev pub refusal_of_load : Option Load → ℕ → Option Refusal
refusal_of_load None room = Some why.Form
refusal_of_load (Some l) room = filed_refusal l room

unfoldable pub load_refusal : List ℕ → ℕ → Option Refusal
load_refusal bytes room = refusal_of_load (parse_load bytes) room

-- ---- the call

abbrev pub text_of_load : Option Load → List ℕ
text_of_load None = []
text_of_load (Some l) = load_text l

unfoldable pub load_of : List ℕ → List ℕ → ChooseExit
load_of bytes out = choose_by (load_refusal bytes (length out)) (text_of_load (parse_load bytes)) out

-- a file that holds a load: it is in good form and reads back as exactly the plans drawn, and `choose` turns it down with nothing
pub record Holds (l : Load) (file : List ℕ) : Type 0 where
  pub fits : length file ≤ max_file
  pub reads : parse file ≡ Some (load_pool l)
  pub chosen : choose_refusal file max_text ≡ None

-- THE PROMISE of `write_load`
pub record Loads (bytes entry : List ℕ) (exit : ChooseExit) : Type 0 where
  pub whole : exit ≡ load_of bytes entry
  pub refused : refused_by exit.answer ≡ load_refusal bytes (length entry)
  pub holds : load_refusal bytes (length entry) ≡ None → (l : Load) → parse_load bytes ≡ Some l → Holds l (handed_out exit.answer exit.out)

-- "Refused, printed as by `choose`": what the program prints, with room for every file
unfoldable pub load_printed : List ℕ → List ℕ
load_printed bytes = printed_by (load_refusal bytes max_file) (text_of_load (parse_load bytes))
