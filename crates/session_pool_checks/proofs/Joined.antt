-- 8 and 9 for two slices of plans, the second behind the first, from what each says of either.
use Prim.Native.Nat.{ℕ, ◌*◌, ◌≤◌}
use mathlib.Core.Path.{◌≡◌, refl, sym, ap, ◌∙◌}
use mathlib.Core.Bool.{Bool, true, false, not, ◌&&◌, false≢true, true≢false}
use mathlib.Core.List.{List, [], ◌∷◌, ◌++◌}
use Rattle.std.specs.Prelude.{None, Some}
use lib.ListN.{length, take}
use Rattle.list_laws.proofs.Checks.{passed_over, applies-first}
use Rattle.model.specs.declared.Refusal.TheVariants as why
use Rattle.model.specs.declared.Session.{Session}
use Rattle.model.specs.Lists.{all_below}
use Rattle.model.specs.Plan.{Plan, plan_at, plan_count, plan_words, max_objectives}
use Rattle.model.specs.Session.{operators_of, dimension_of}
use Rattle.model.specs.Refusal.{check, first_of, good_plan, good_plans, good_ideal, breedable, bad_pool, bad_parents}
use Rattle.session_pool_laws.proofs.Blocks.{joined-count, joined-test}
use Rattle.session_laws.specs.Refused.{Sound, request_from, word_refusal}
use Rattle.session_laws.proofs.Window.{objectives-few}
use Rattle.session_laws.proofs.Request.{words-objectives}

-- ---- by what the first says, and then the second

-- the ideal is looked at with either
first-bad : (a b i : Bool) → not (a && i) ≡ true → not ((a && b) && i) ≡ true
first-bad false b i e = refl
first-bad true b false e = ap not (and-false b)
  where
    and-false : (b : Bool) → (b && false) ≡ false
    and-false true = refl
    and-false false = refl
first-bad true b true e = absurd (false≢true e)

then_second : (a b i : Bool) → not (a && i) ≡ false → not (b && i) ≡ not ((a && b) && i)
then_second false b i e = absurd (true≢false e)
then_second true b i e = refl

first_fails : (a b : Bool) → not a ≡ true → not (a && b) ≡ true
first_fails false b e = refl
first_fails true b e = absurd (false≢true e)

then_fails : (a b : Bool) → not a ≡ false → not b ≡ not (a && b)
then_fails false b e = absurd (true≢false e)
then_fails true b e = refl

-- ---- a session's

module _ (s : Session) (ok : Sound s) where
  abbrev m : ℕ
  m = s.config.n_obj

  pub few-objectives : m ≤ max_objectives
  few-objectives = objectives-few s.config ok.config

  module _ (a b : List ℕ) (whole : plan_count a * plan_words ≡ length a) where
    abbrev good : List ℕ → Bool
    good ws = good_plans m (plan_at ws) (plan_count ws)

    abbrev able : List ℕ → Bool
    able ws = all_below (λ p. breedable (dimension_of s) s.progress.n_dims (plan_at ws p)) (plan_count ws)

    both : (f : Plan → Bool) → all_below (λ p. f (plan_at (a ++ b) p)) (plan_count (a ++ b)) ≡ (all_below (λ p. f (plan_at a p)) (plan_count a) && all_below (λ p. f (plan_at b p)) (plan_count b))
    both f =
        ap (all_below (λ p. f (plan_at (a ++ b) p))) (joined-count a b (plan_count a) (sym whole)) ∙ joined-test a b (plan_count a) (sym whole) f (plan_count b)

    pools_bad : bad_pool (request_from s (a ++ b)) ≡ not ((good a && good b) && good_ideal m (take m s.ideal_point))
    unfolding bad_pool
    pools_bad =
        ap (λ (k : ℕ). not (good_plans k (plan_at (a ++ b)) (plan_count (a ++ b)) && good_ideal k (take m s.ideal_point))) (words-objectives s (a ++ b) ok.config ok.dimensions)
        ∙ ap (λ (x : Bool). not (x && good_ideal m (take m s.ideal_point))) (both (good_plan m))

    parents-bad : bad_parents (operators_of s) (request_from s (a ++ b)) ≡ not (able a && able b)
    unfolding bad_parents
    parents-bad = ap not (both (breedable (dimension_of s) s.progress.n_dims))

    -- by the answers of code
    abbrev bad : List ℕ → Bool
    bad ws = not (good ws && good_ideal m (take m s.ideal_point))

    pub pools_first : (x : Bool) → x ≡ bad a → x ≡ true → true ≡ bad_pool (request_from s (a ++ b))
    pools_first x e f = sym (pools_bad ∙ first-bad (good a) (good b) _ (sym e ∙ f))

    pub pools_second : (x y : Bool) → x ≡ bad a → x ≡ false → y ≡ bad b → y ≡ bad_pool (request_from s (a ++ b))
    pools_second x y e f g = g ∙ then_second (good a) (good b) (good_ideal m (take m s.ideal_point)) (sym e ∙ f) ∙ sym pools_bad

    pub parents-first : (x : Bool) → x ≡ not (able a) → x ≡ true → true ≡ bad_parents (operators_of s) (request_from s (a ++ b))
    parents-first x e f = sym (parents-bad ∙ first_fails (able a) (able b) (sym e ∙ f))

    pub parents-second : (x y : Bool) → x ≡ not (able a) → x ≡ false → y ≡ not (able b) → y ≡ bad_parents (operators_of s) (request_from s (a ++ b))
    parents-second x y e f g = g ∙ then_fails (able a) (able b) (sym e ∙ f) ∙ sym parents-bad

-- ---- 8, and then 9

module _ (s : Session) (words : List ℕ) where
  abbrev eight : Bool
  eight = bad_pool (request_from s words)

  abbrev nine : Bool
  nine = bad_parents (operators_of s) (request_from s words)

  pub refused_8 : (x : Bool) → x ≡ eight → x ≡ true → Some why.Values ≡ word_refusal s words
  refused_8 x e f = sym (applies-first (check why.Values eight) _ (sym e ∙ f))

  pub refused_9 : (x y : Bool) → x ≡ eight → x ≡ false → y ≡ nine → y ≡ true → Some why.Parents ≡ word_refusal s words
  refused_9 x y e f g h = sym (passed_over (check why.Values eight) _ (sym e ∙ f) ∙ applies-first (check why.Parents nine) _ (sym g ∙ h))

  pub refused-not : (x y : Bool) → x ≡ eight → x ≡ false → y ≡ nine → y ≡ false → None ≡ word_refusal s words
  unfolding first_of
  refused-not x y e f g h = sym (passed_over (check why.Values eight) (check why.Parents nine ∷ []) (sym e ∙ f) ∙ passed_over (check why.Parents nine) [] (sym g ∙ h))
