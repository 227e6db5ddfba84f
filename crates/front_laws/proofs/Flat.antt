-- A pool in flat lists: its domination is that of its plans, and strict where no row has a NaN.
use Prim.Native.Nat.{ℕ, ◌<◌}
use mathlib.Core.Path.{◌≡◌}
use mathlib.Core.Bool.{Bool, true, false}
use mathlib.Core.List.{List}
use native.Mathlib.Omega.{arith}
use lib.Ieee.{Float, nan}
use lib.ListN.{length, get_or}
use Rattle.model.specs.Plan.{Plan}
use Rattle.model.specs.Row.{row_of, constrained_dominates, row_beats, beats}
use Rattle.front_laws.specs.Strict.{Strict}
use Rattle.front_laws.proofs.Same.{Agree}
use Rattle.list_laws.proofs.Rows.{row_inside}
use Rattle.front_laws.specs.Flat.{row_at, flat_dominates, flat_beats, Pool, Within, KnownRows, RowsOf, FlatOf}
use Rattle.front_laws.proofs.Domination.{dominates-same, rule_irreflexive, rule_strict}

pub flat_dominates-row_beats : (marks : List ℕ) (plans : ℕ → Plan) (n : ℕ) (rows : List Float)
    → RowsOf marks plans n rows → Agree (flat_dominates rows (length marks)) (row_beats marks plans) n
unfolding row_beats
flat_dominates-row_beats marks plans n rows h p q lp lq =
    dominates-same (length marks) (row_at rows (length marks) p) (row_of marks (plans p)) (row_at rows (length marks) q) (row_of marks (plans q))
    (λ j l. h p j lp l) (λ j l. h q j lq l)

pub flat_beats-beats : (marks : List ℕ) (plans : ℕ → Plan) (n : ℕ) (rows : List Float) (flags : List Bool) (sums : List Float)
    → FlatOf marks plans n rows flags sums → Agree (flat_beats rows (length marks) flags sums) (beats marks plans) n
unfolding flat_beats beats constrained_dominates row_beats
flat_beats-beats marks plans n rows flags sums h p q lp lq =
    rw (h.flags_of p lp, h.flags_of q lq, h.sums_of p lp, h.sums_of q lq, flat_dominates-row_beats marks plans n rows h.rows_of p q lp lq)

-- where every plan is feasible, flat rows decide alone
pub flat_beats-rows : (rows : List Float) (m : ℕ) (flags : List Bool) (sums : List Float) (n : ℕ) → ((p : ℕ) → p < n → get_or flags p false ≡ true)
    → Agree (flat_beats rows m flags sums) (flat_dominates rows m) n
unfolding flat_beats
flat_beats-rows rows m flags sums n h p q lp lq = rw (h p lp, h q lq)

-- rows without a NaN make it strict
pub flat_beats_self : (rows : List Float) (m : ℕ) (flags : List Bool) (sums : List Float) (p : ℕ) → flat_beats rows m flags sums p p ≡ false
unfolding flat_beats
flat_beats_self rows m flags sums p = rule_irreflexive m (get_or flags p false) (get_or sums p nan) (row_at rows m p)

pub flat_beats_strict : (rows : List Float) (m : ℕ) (flags : List Bool) (sums : List Float) (n : ℕ) → KnownRows rows m n → Strict (flat_beats rows m flags sums) n
unfolding flat_beats
flat_beats_strict rows m flags sums n = rule_strict m n (λ p. get_or flags p false) (λ p. get_or sums p nan) (row_at rows m)

-- two plans of a pool in flat lists are within the lists
pub pool-pair : (rows : List Float) (m : ℕ) (flags : List Bool) (sums : List Float) (n p q : ℕ) → Pool rows m flags sums n → p < n → q < n
    → Within rows m flags sums p q
pool-pair rows m flags sums n p q h lp lq =
    let a = row_inside p n m lp in
    let b = row_inside q n m lq in
    (omega arith, omega arith, omega arith, omega arith, omega arith, omega arith)
