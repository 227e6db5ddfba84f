-- THE PROMISE of the call that writes a load, from what it leaves; and refusal by refusal.
use Prim.Native.Nat.{ℕ, ◌≤◌, ◌<◌}
use mathlib.Core.Path.{◌≡◌, refl, sym, ap, ap₂, ◌∙◌, subst}
use mathlib.Core.Bool.{true, false, or-true}
use mathlib.Core.List.{List}
use Rattle.std.specs.Prelude.{Option, None, Some, Ok, Err}
use borrow.Author.Tests.{lt-ltb, le-ltb}
use lib.ListN.{length}
use Rattle.model.specs.declared.Refusal.{Refusal}
use Rattle.model.specs.declared.Refusal.TheVariants as why
use Rattle.model.specs.Lists.{over}
use Rattle.model.specs.PoolFile.{max_file}
use Rattle.model.specs.Refusal.{first_of}
use Rattle.model.specs.Calls.{ChooseExit, choose_by, refused_by, handed_out}
use Rattle.model.specs.Load.{Load, parse_load, load_text, bad_counts, bad_load, filed_refusal, refusal_of_load, load_refusal, text_of_load, load_of, Holds, Loads}
use Rattle.list_laws.proofs.Built.{over-take}
use Rattle.list_laws.proofs.Checks.{applies-at, applies-first, passed_over}
use Rattle.pool_laws.specs.Choice.{exit}
use Rattle.load_laws.proofs.Holds.{holds}
use Rattle.load_laws.proofs.Read.{load-words}

-- an answer tells the refusal, or that there is none
told : (o : Option Refusal) (text out : List ℕ) → refused_by (choose_by o text out).answer ≡ o
told None text out = refl
told (Some n) text out = refl

module _ (bytes out : List ℕ) where
  -- the text that is handed out is the load's
  handed : (x : ChooseExit) → x ≡ load_of bytes out → load_refusal bytes (length out) ≡ None → (l : Load) → parse_load bytes ≡ Some l
      → handed_out x.answer x.out ≡ load_text l
  unfolding load_of
  handed x e o l read =
      ap (λ (t : ChooseExit). handed_out t.answer t.out) (e ∙ ap₂ (λ n g. choose_by n (text_of_load g) out) o read)
      ∙ over-take (load_text l) out (length (load_text l)) refl

  -- a load that is not refused is good
  good : load_refusal bytes (length out) ≡ None → (l : Load) → parse_load bytes ≡ Some l → bad_load l ≡ false
  unfolding load_refusal filed_refusal
  good o l read = applies-at _ 0 (sym (ap (λ g. refusal_of_load g (length out)) read) ∙ o)

  pub promise : (x : ChooseExit) → x ≡ load_of bytes out → Loads bytes out x
  unfolding load_of
  promise x e = record {
    whole = e;
    refused = ap (λ (t : ChooseExit). refused_by t.answer) e ∙ told (load_refusal bytes (length out)) (text_of_load (parse_load bytes)) out;
    holds = λ o l read. subst (Holds l) (sym (handed x e o l read)) (holds l (good o l read) (load-words bytes l read));
  }

  -- ---- case by case

  by-load : (o : Option Load) → parse_load bytes ≡ o → (x : ChooseExit) → x ≡ choose_by (refusal_of_load o (length out)) (text_of_load o) out → Loads bytes out x
  unfolding load_of load_refusal
  by-load o read x e = promise x (e ∙ sym (ap (λ g. choose_by (refusal_of_load g (length out)) (text_of_load g) out) read))

  pub refused_1 : parse_load bytes ≡ None → Loads bytes out (exit (Err why.Form) out)
  refused_1 read = by-load None read _ refl

  module _ (l : Load) (read : parse_load bytes ≡ Some l) where
    by_filed : (o : Option Refusal) → filed_refusal l (length out) ≡ o → (x : ChooseExit) → x ≡ choose_by o (load_text l) out → Loads bytes out x
    by_filed o e x g = by-load (Some l) read x (g ∙ sym (ap (λ t. choose_by t (load_text l) out) e))

    pub refused_13 : bad_load l ≡ true → Loads bytes out (exit (Err why.Load) out)
    unfolding filed_refusal
    refused_13 bad = by_filed (Some why.Load) (applies-first _ _ bad) _ refl

    -- .. by its counts, and by its length
    pub bad-counts : bad_counts l ≡ true → Loads bytes out (exit (Err why.Load) out)
    unfolding bad_load
    bad-counts bad = refused_13 (rw bad)

    pub too_long : max_file < length (load_text l) → Loads bytes out (exit (Err why.Load) out)
    unfolding bad_load
    too_long long = refused_13 (rw (lt-ltb max_file (length (load_text l)) long, or-true))

    module _ (counts : bad_counts l ≡ false) (fits : length (load_text l) ≤ max_file) where
      good-load : bad_load l ≡ false
      unfolding bad_load
      good-load = rw (counts, le-ltb max_file (length (load_text l)) fits)

      pub refused_10 : length out < length (load_text l) → Loads bytes out (exit (Err why.Room) out)
      unfolding filed_refusal
      refused_10 short = by_filed (Some why.Room) (passed_over _ _ good-load ∙ applies-first _ _ (lt-ltb (length out) (length (load_text l)) short)) _ refl

      pub accepted : length (load_text l) ≤ length out → (n : ℕ) (after : List ℕ) → n ≡ length (load_text l) → after ≡ over (load_text l) out
          → Loads bytes out (exit (Ok n) after)
      unfolding filed_refusal first_of
      accepted room n after e f =
          by_filed None (rw (good-load, le-ltb (length out) (length (load_text l)) room)) _ (ap₂ (λ k t. exit (Ok k) t) e f)
