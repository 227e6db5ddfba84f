-- One more line for each plan of a block.
use Prim.Native.Nat.{ℕ, ◌+◌, ◌≤◌, ◌<◌}
use mathlib.Core.Path.{◌≡◌, refl, ap, sym, subst, ◌∙◌}
use mathlib.Core.Bool.{Bool, true, false, not, ◌&&◌}
use mathlib.Core.List.{List}
use native.Mathlib.Omega.{arith}
use lib.Ieee.{Float, nan, inf, fin, lt}
use lib.ListN.{length, get_or, set}
use Rattle.model.specs.declared.Edition.{Edition}
use Rattle.model.specs.Edition.{takes_root}
use Rattle.model.specs.Lists.{any_below}
use Rattle.model.specs.Real.{◌⊗◌, infinity}
use Rattle.model.specs.Association.{small_norm, squares_of, measure_of}
use Rattle.list_laws.proofs.Bools.{by_bool, and_fails}
use Rattle.list_laws.proofs.Built.{over_below}
use Rattle.list_laws.proofs.Tests.{any_below-each}
use Rattle.list_laws.proofs.Stores.{set_cases}
use Rattle.association_laws.specs.Flat.{row_at, norm_at}
use Rattle.association_laws.specs.Search.{Square, Found}
use Rattle.association_laws.proofs.Search.{distance_measure, squares_short, found_clear, found_farther, found-less}
use Rattle.association_laws.proofs.Squares.{squares_square}
use Rattle.real_laws.proofs.Roots.Apart.{nearly_one}
use Rattle.columns.specs.Block.{plan_at, LineSquares}
use Rattle.block_search.specs.Turn.{close_at, line_less, square_less, KeptLess, block_distance, FoundAll, Next, NextAll, Turned}

-- ---- plan after plan

-- place j once place i is stored in two lists
pair_set : (P : ℕ → Float → Type 0) (lines : List ℕ) (best : List Float) (i j x : ℕ) (y : Float) → i < length lines → i < length best → (i ≡ j → P x y)
    → ((i ≡ j → ⊥) → P (get_or lines j 0) (get_or best j nan)) → P (get_or (set lines i x) j 0) (get_or (set best i y) j nan)
pair_set P lines best i j x y h k f g =
    set_cases (λ l. P l (get_or (set best i y) j nan)) 0 lines i j x h
    (λ e. set_cases (λ s. P x s) nan best i j y k f (λ n. absurd (n e)))
    (λ n. set_cases (λ s. P (get_or lines j 0) s) nan best i j y k (λ e. absurd (n e)) g)

module _ (e : Edition) (d : ℕ → ℕ → Float) (n len : ℕ) where
  pub turn_none : (lines : List ℕ) (best : List Float) → FoundAll e d n len lines best → Turned e d n len 0 lines best
  turn_none lines best f = record { done = λ b h. absurd (omega arith); rest = λ b h k. f.at b k }

  pub turn_more : (i x : ℕ) (y : Float) (lines : List ℕ) (best : List Float) → i < length lines → i < length best → Turned e d n len i lines best
      → Found e (d i) (n + 1) x y → Turned e d n len (i + 1) (set lines i x) (set best i y)
  turn_more i x y lines best h k t f = record { done = done; rest = rest }
    where
      done : (b : ℕ) → b < i + 1 → Found e (d b) (n + 1) (get_or (set lines i x) b 0) (get_or (set best i y) b nan)
      done b l = pair_set (λ v w. Found e (d b) (n + 1) v w) lines best i b x y h k (λ same. subst (λ (a : ℕ). Found e (d a) (n + 1) x y) same f) (λ o. t.done b (omega arith))

      rest : (b : ℕ) → i + 1 ≤ b → b < len → Found e (d b) n (get_or (set lines i x) b 0) (get_or (set best i y) b nan)
      rest b l m = pair_set (λ v w. Found e (d b) n v w) lines best i b x y h k (λ same. absurd (omega arith)) (λ o. t.rest b (omega arith) m)

  pub turn_all : (lines : List ℕ) (best : List Float) → Turned e d n len len lines best → FoundAll e d (n + 1) len lines best
  turn_all lines best t = record { at = t.done }

-- ---- the lesser squares

not_no : (b : Bool) → not b ≡ false → b ≡ true
not_no true e = refl
not_no false e = sym e

-- where no root is taken, or no square is close to the best one, the lesser of the two has the lesser measure
pub less-found : (e : Edition) (d : ℕ → ℕ → Float) (n : ℕ) (squares : List Float) (len : ℕ) (lines₀ lines : List ℕ) (best₀ best : List Float) → (takes_root e && any_below (close_at squares best₀) len) ≡ false
    → KeptLess n squares len lines₀ lines best₀ best → FoundAll e d n len lines₀ best₀ → NextAll e d n len squares → FoundAll e d (n + 1) len lines best
less-found e d n squares len lines₀ lines best₀ best none k f g = record { at = here }
  where
    here : (b : ℕ) → b < len → Found e (d b) (n + 1) (get_or lines b 0) (get_or best b nan)
    here b h =
        let s = get_or squares b nan in
        let q = get_or best₀ b nan in
        let l = get_or lines₀ b 0 in
        let S = g.at b h in
        let far : takes_root e ≡ true → lt s q ≡ true → lt s (q ⊗ nearly_one) ≡ true = λ root k.
        not_no (lt s (q ⊗ nearly_one)) (and_fails (lt s q) (not (lt s (q ⊗ nearly_one)))
        (any_below-each (close_at squares best₀) len (and_fails (takes_root e) (any_below (close_at squares best₀) len) none root) b h) k) in
        rw (over_below (line_less n squares lines₀ best₀) len lines lines₀ b 0 k.line h, over_below (square_less squares best₀) len best best₀ b nan k.square h)
        (by_bool (lt s q)
        (λ k. rw k (by_bool (takes_root e)
        (λ root. found_clear e (d b) n l q s (f.at b h) S.square S.measured k (far root k))
        (λ whole. found-less e (d b) n l q s (f.at b h) S.square S.measured whole k)))
        (λ k. rw k (found_farther e (d b) n l q s (f.at b h) S.square S.measured k)))

-- ---- the next line

not-below : (q : Float) → lt infinity q ≡ false
unfolding lt
not-below nan = refl
not-below (inf true) = refl
not-below (inf false) = refl
not-below (fin s m e) = refl

module _ (e : Edition) (x : List Float) (m len : ℕ) (table : List Float) (l : ℕ) where
  -- a line that is too short is infinitely far from every plan
  pub turn_short : (norm : Float) (lines : List ℕ) (best : List Float) → norm ≡ norm_at table m l → lt norm small_norm ≡ true
      → FoundAll e (block_distance e x m len table) l len lines best → FoundAll e (block_distance e x m len table) (l + 1) len lines best
  turn_short norm lines best own h f = record { at = here }
    where
      here : (b : ℕ) → b < len → Found e (block_distance e x m len table b) (l + 1) (get_or lines b 0) (get_or best b nan)
      here b k =
          let p = plan_at x len b in
          let r = row_at table m l in
          found_farther e (block_distance e x m len table b) l (get_or lines b 0) (get_or best b nan) (squares_of m p r) (f.at b k) (squares_square m p r) (sym (distance_measure e m p r))
          (ap (λ s. lt s (get_or best b nan)) (squares_short m p r norm own h) ∙ not-below (get_or best b nan))

  -- the squares of the others
  pub turn_squares : (squares : List Float) → LineSquares x m len (row_at table m l) squares → NextAll e (block_distance e x m len table) l len squares
  turn_squares squares s = record { at = here }
    where
      here : (b : ℕ) → b < len → Next e (block_distance e x m len table b) l (get_or squares b nan)
      here b k =
          let p = plan_at x len b in
          let r = row_at table m l in
          record { square = subst Square (sym (s.at b k)) (squares_square m p r); measured = ap (measure_of e) (s.at b k) ∙ sym (distance_measure e m p r) }
