-- A load in good form: its counts, its length, the room for it.
use Prim.Native.Nat.{ℕ, ◌≤◌, ◌<◌}
use mathlib.Core.Path.{◌≡◌, ap, sym, ◌∙◌}
use mathlib.Core.Bool.{true, false, or-true}
use mathlib.Core.List.{List}
use Rattle.std.specs.Prelude.{Some, Err}
use native.Mathlib.Omega.{arith}
use borrow.Author.Tests.{lt-ltb, le-ltb, ltb-false}
use lib.Dec.{eqb}
use lib.ListN.{length, take}
use Rattle.model.specs.declared.Refusal.TheVariants as why
use Rattle.model.specs.Plan.{max_objectives, max_constraints}
use Rattle.model.specs.PoolFile.{max_file}
use Rattle.model.specs.declared.Edition.TheVariants.{First}
use Rattle.model.specs.Edition.{most_plans}
use Rattle.model.specs.Refusal.{first_of}
use Rattle.model.specs.Calls.{ChooseExit, choose_by}
use Rattle.model.specs.Load.{Load, parse_load, load_text, bad_counts, bad_load, filed_refusal, refusal_of_load, load_refusal, text_of_load, load_of, Loads}
use Rattle.list_laws.proofs.Bools.{or_right}
use Rattle.list_laws.proofs.Checks.{applies-first}
use Rattle.pool_laws.specs.Choice.{exit, text_exit}
use Rattle.pool_form.specs.Form.{Adds}
use Rattle.pool_form.proofs.Pieces.{fitted, over-long}
use Rattle.load_laws.proofs.Refusals.{counted}
use Rattle.load_laws.proofs.Promise.{promise}
use Rattle.load_file.specs.Filed.{filed_exit}

-- the whole promise, from what a load in good form leaves
pub filed : (bytes out : List ℕ) (l : Load) (x : ChooseExit) → parse_load bytes ≡ Some l → x ≡ filed_exit l out → Loads bytes out x
unfolding load_of load_refusal
filed bytes out l x read e = promise bytes out x (e ∙ sym (ap (λ g. choose_by (refusal_of_load g (length out)) (text_of_load g) out) read))

module _ (l : Load) (out : List ℕ) where
  -- refusal 13
  turned_down : bad_load l ≡ true → exit (Err why.Load) out ≡ filed_exit l out
  unfolding filed_refusal
  turned_down bad = sym (ap (λ o. choose_by o (load_text l) out) (applies-first _ _ bad))

  pub bad-counts : bad_counts l ≡ true → exit (Err why.Load) out ≡ filed_exit l out
  unfolding bad_load
  bad-counts bad = turned_down (rw bad)

  module _ (counts : bad_counts l ≡ false) where
    pub limits : (l.count ≤ most_plans First) × (l.objectives ≤ max_objectives) × (l.constraints ≤ max_constraints)
    limits =
        let c = counted l counts in
        (ltb-false (most_plans First) l.count (or_right (eqb l.count 0) _ c.count), c.narrow, c.constraints)

    -- the file is made in a buffer that is as long as the longest one
    module _ (before after : List ℕ) (n : ℕ) (made : Adds (load_text l) before 0 after n) (full : length before ≡ max_file) where
      pub too_long : max_file < n → exit (Err why.Load) out ≡ filed_exit l out
      unfolding bad_load
      too_long h =
          let m = made.same ∙ full in
          let g : max_file < length (load_text l) = omega (arith, over-long (load_text l) before after n made (omega arith)) in
          turned_down (rw (lt-ltb max_file (length (load_text l)) g, or-true))

      module _ (fits : n ≤ max_file) where
        pub within : n ≤ length after
        within = omega (arith, made.same ∙ full)

        pub handed : (x : ChooseExit) → x ≡ text_exit (take n after) out → x ≡ filed_exit l out
        unfolding filed_refusal first_of bad_load
        handed x e =
            let w = fitted (load_text l) before after n made within in
            let g : length (load_text l) ≤ max_file = omega (arith, w.ends) in
            e ∙ ap (λ t. text_exit t out) w.stands ∙ sym (rw (counts, le-ltb max_file (length (load_text l)) g))
