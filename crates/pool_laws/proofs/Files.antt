-- From the parser's answer to the promise of `choose`.
use Prim.Native.Nat.{ℕ, ◌*◌, ◌≤◌, ◌<◌}
use mathlib.Core.Path.{◌≡◌, ap, sym, ◌∙◌, subst, ap₂, refl}
use mathlib.Core.Bool.{Bool, true, false, cond}
use mathlib.Core.List.{List}
use Rattle.std.specs.Prelude.{Option, None, Some, Err}
use native.Mathlib.Omega.{arith}
use lib.ListN.{length}
use Rattle.model.specs.declared.Refusal.{Refusal}
use Rattle.model.specs.declared.Refusal.TheVariants as why
use Rattle.model.specs.declared.Edition.TheVariants.{First}
use Rattle.model.specs.Edition.{most_plans}
use Rattle.model.specs.Plan.{plan_words, max_objectives}
use Rattle.model.specs.Association.{Request}
use Rattle.model.specs.PoolFile.{PoolFile, opens_second, parse, file_request, file_text}
use Rattle.model.specs.Refusal.{select_refusal, form_refusal, refusal_of_parsed, file_refusal, choose_refusal}
use Rattle.model.specs.Calls.{ChooseExit, choose_by, text_of, choose_of, Chooses, refused_by, handed_out}
use Rattle.list_laws.proofs.Built.{over-take}
use Rattle.list_laws.proofs.Bools.{by_option}
use Rattle.list_laws.proofs.Below.{by_lt}
use Rattle.plans.proofs.Refused.{directions-many}
use Rattle.pool_file.specs.declared.Header.{Header}
use Rattle.pool_file.specs.Parsing.{file_of, PoolIs, Pool}
use Rattle.pool_laws.specs.Choice.{exit, roomy, list_exit}
use Rattle.pool_laws.proofs.Shapes.{Whole, parse-whole}
use Rattle.pool_laws.proofs.Carried.{Carried, select_same, stored, two-same, four_same, carried}
use Rattle.pool_laws.proofs.Refusals.{file_refusal_lem, directions-first, many-plans, refused_alike, list-refused}
use Rattle.pool_laws.proofs.Demand3.{file_accepted, file_tells}

-- an answer tells the refusal, or that there is none
told : (o : Option Refusal) (text out : List ℕ) → refused_by (choose_by o text out).answer ≡ o
told None text out = refl
told (Some n) text out = refl

-- the text that it hands out is the file's listing
listed : (file out : List ℕ) (x : ChooseExit) → x ≡ choose_of file out → choose_refusal file (length out) ≡ None → (f : PoolFile) → parse file ≡ Some f
    → handed_out x.answer x.out ≡ file_text f
unfolding choose_of
listed file out x e o f read =
    ap (λ (t : ChooseExit). handed_out t.answer t.out) (e ∙ ap₂ (λ (n : Option Refusal) (g : Option PoolFile). choose_by n (text_of g) out) o read)
    ∙ over-take (file_text f) out (length (file_text f)) refl

promise : (file out : List ℕ) (x : ChooseExit) → x ≡ choose_of file out → Chooses file out x
unfolding choose_of
promise file out x e = record {
  whole = e;
  refused = ap (λ (t : ChooseExit). refused_by t.answer) e ∙ told (choose_refusal file (length out)) (text_of (parse file)) out;
  listing = listed file out x e;
  demand3 = λ o f read enough. file_tells file (length out) o f read enough _ (listed file out x e o f read);
}

-- what a file answers, by what it is read as
by-parse : (file out : List ℕ) (o : Option PoolFile) → parse file ≡ o → (x : ChooseExit) → x ≡ choose_by (refusal_of_parsed (form_refusal file) o (length out)) (text_of o) out
    → Chooses file out x
unfolding choose_of choose_refusal
by-parse file out o n x g = promise file out x (g ∙ sym (ap (λ (t : Option PoolFile). choose_by (refusal_of_parsed (form_refusal file) t (length out)) (text_of t) out) n))

-- ---- a file that breaks the form of its edition

module _ (file directions pool : List ℕ) (p : PoolIs file directions pool None) (out : List ℕ) where
  broken : Chooses file out (exit (Err (form_refusal file)) out)
  broken = by-parse file out None p _ refl

  by-edition : (second : Bool) → opens_second file ≡ second → Chooses file out (exit (Err (cond second why.SecondForm why.Form)) out)
  by-edition second o = subst (λ (b : Bool). Chooses file out (exit (Err (cond b why.SecondForm why.Form)) out)) o broken

  pub broken-second : opens_second file ≡ true → Chooses file out (exit (Err why.SecondForm) out)
  broken-second = by-edition true

  pub broken-first : opens_second file ≡ false → Chooses file out (exit (Err why.Form) out)
  broken-first = by-edition false

-- ---- the words' request and the file's

alike_exit : (f : PoolFile) → Whole f → (w : Request) → Carried w (file_request f) → (out : List ℕ) → list_exit w out ≡ list_exit (file_request f) out
alike_exit f whole w c out = by_option (select_refusal (file_request f) roomy)
    (λ o. let a = file_accepted f whole o in ap (λ (t : Request). list_exit t out) (c.same a.directions a.pool))
    (λ n o. list-refused w out n (select_same w (file_request f) c roomy ∙ o) ∙ sym (list-refused (file_request f) out n o))

-- ---- a file in good form

module _ (file directions pool : List ℕ) (h : Header) (held : Pool file h directions pool) (out : List ℕ) where
  abbrev form : PoolFile
  form = file_of h held.values held.read

  refused : (n : Refusal) → file_refusal form (length out) ≡ Some n → Chooses file out (exit (Err n) out)
  refused n g = by-parse file out (Some form) held.parsed _ (sym (ap (λ (o : Option Refusal). choose_by o (file_text form) out) g))

  pub many-objectives : 8 < h.m → Chooses file out (exit (Err why.Directions) out)
  many-objectives g =
      refused why.Directions (directions-first form (length out) (directions-many held.values (omega (arith, (parse-whole file form held.parsed).marks))))

  -- k plans have words: all of them, or none of too many
  pub chosen-words : h.m ≤ max_objectives → most_plans First * plan_words ≤ length pool → (k : ℕ) → (h.count ≤ most_plans First → k ≡ h.count) → (most_plans First < h.count → k ≡ 0)
      → (x : ChooseExit) → x ≡ list_exit (stored h directions pool k) out → Chooses file out x
  chosen-words few room k full empty x g = by-parse file out (Some form) held.parsed x (g ∙ by_lt (most_plans First) h.count
      (λ many. ap (λ (j : ℕ). list_exit (stored h directions pool j) out) (empty many)
      ∙ refused_alike (stored h directions pool 0) form out (two-same file h directions pool held few) refl (four_same file h directions pool held few) refl
      (many-plans h.count many))
      (λ small. ap (λ (j : ℕ). list_exit (stored h directions pool j) out) (full small)
      ∙ alike_exit form (parse-whole file form held.parsed) (stored h directions pool h.count) (carried file h directions pool held few small room) out
      ∙ sym (ap (λ (o : Option Refusal). choose_by o (file_text form) out) (file_refusal_lem form (length out)))))
