-- The words of a session and of a dimension, from their parts.
use Prim.Native.Nat.{ℕ, ◌≤◌}
use mathlib.Core.Path.{◌≡◌, refl, ap, ap₂, ◌∙◌}
use mathlib.Core.List.{List, [], ◌∷◌, ◌++◌}
use lib.ListN.{length, get_or}
use Rattle.std.specs.Option.{unwrap_or}
use Rattle.model.specs.declared.Config.{Config}
use Rattle.model.specs.Edition.{edition_number}
use Rattle.model.specs.declared.Distribution.{Distribution}
use Rattle.model.specs.declared.Distribution.TheVariants as dist
use Rattle.model.specs.declared.Session.{Session}
use Rattle.model.specs.Lists.{join_below, over}
use Rattle.model.specs.Real.{bits}
use Rattle.model.specs.Session.{dimension_of}
use Rattle.model.specs.Setting.{max_dims}
use native.Mathlib.Omega.{arith}
use Rattle.list_laws.proofs.Rows.{join_below-length}
use Rattle.list_laws.proofs.Built.{over-front, over_run}
use lib.Seq.{sets}
use Rattle.session_words.specs.Coding.{mark_of, phase_word, dimension_width, dimension_words, head_width, session_width, eight, config_words, state_words, ideal_words, session_words}
use Rattle.session_words.specs.Place as place

pub dimension_length : (x : Distribution) → length (dimension_words x) ≡ dimension_width
dimension_length (dist.Float d) = refl
dimension_length (dist.Int d) = refl
dimension_length (dist.Categorical d) = refl

pub six-laid : (kind : ℕ) {low high log has step low' high' log' has' step' : ℕ} → low ≡ low' → high ≡ high' → log ≡ log' → has ≡ has' → step ≡ step'
    → (kind ∷ low ∷ high ∷ log ∷ has ∷ step ∷ []) ≡ (kind ∷ low' ∷ high' ∷ log' ∷ has' ∷ step' ∷ [])
six-laid kind p q r t u = rw (p, q, r, t, u)

pub config-laid : (x : Config) {a b c d e f g h p q r v i w : ℕ} → (a ∷ b ∷ c ∷ d ∷ e ∷ f ∷ g ∷ h ∷ []) ≡ eight (λ i. get_or x.directions i 0) → p ≡ bits x.crossover_prob
    → q ≡ bits x.crossover_eta → r ≡ bits x.mutation_eta → v ≡ edition_number x.edition → i ≡ mark_of x.window → w ≡ unwrap_or x.window 0
    → (x.n_obj ∷ a ∷ b ∷ c ∷ d ∷ e ∷ f ∷ g ∷ h ∷ x.divisions ∷ x.population_size ∷ p ∷ q ∷ r ∷ v ∷ i ∷ w ∷ []) ≡ config_words x
unfolding config_words
config-laid x {p = p} {q = q} {r = r} {v = v} {i = i} {w = w} m hp hq hr hv hi hw =
    ap (λ l. x.n_obj ∷ l ++ (x.divisions ∷ x.population_size ∷ p ∷ q ∷ r ∷ v ∷ i ∷ w ∷ [])) m ∙ rw (hp, hq, hr, hv, hi, hw)

pub state-laid : (s : Session) (p has plan : ℕ) → p ≡ phase_word s.phase → has ≡ mark_of s.discovery_trial_id → plan ≡ unwrap_or s.discovery_trial_id 0
    → (p ∷ has ∷ plan ∷ s.rng.s ∷ s.progress.n_dims ∷ s.progress.n_candidates ∷ s.progress.n_plans ∷ s.progress.n_waiting ∷ s.progress.n_remembered ∷ s.progress.generation ∷ []) ≡ state_words s
unfolding state_words
state-laid s p has plan a b c = rw (a, b, c)

pub session-laid : (s : Session) (w w1 w2 w3 w4 cs ss zs : List ℕ) → cs ≡ config_words s.config → w1 ≡ sets w place.objectives cs → ss ≡ state_words s → w2 ≡ sets w1 place.phase ss
    → zs ≡ ideal_words s.ideal_point → w3 ≡ sets w2 place.ideal zs → w4 ≡ sets w3 head_width (join_below (λ d. dimension_words (dimension_of s d)) max_dims)
    → session_width ≤ length w → w4 ≡ over (session_words s) w
unfolding config_words state_words ideal_words session_words
session-laid s w w1 w2 w3 w4 cs ss zs p p1 q q2 r r3 t room =
    let c = config_words s.config in
    let u = state_words s in
    let z = ideal_words s.ideal_point in
    let d = join_below (λ d. dimension_words (dimension_of s d)) max_dims in
    let n = join_below-length (λ d. dimension_words (dimension_of s d)) dimension_width max_dims (λ i u. dimension_length (dimension_of s i)) in
    let a1 : w1 ≡ over c w = p1 ∙ ap (λ x. sets w place.objectives x) p ∙ over-front c w (omega arith) in
    let a2 : w2 ≡ over (c ++ u) w = q2 ∙ ap₂ (λ x y. sets y place.phase x) q a1 ∙ over_run c u w place.phase refl (omega arith) in
    let a3 : w3 ≡ over ((c ++ u) ++ z) w = r3 ∙ ap₂ (λ x y. sets y place.ideal x) r a2 ∙ over_run (c ++ u) z w place.ideal refl (omega arith) in
    t ∙ ap (λ x. sets x head_width d) a3 ∙ over_run ((c ++ u) ++ z) d w head_width refl (omega (arith, n))
