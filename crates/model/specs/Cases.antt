-- Document 01, "Cases by record": the cases marked P as one table, and small examples that tell each trap from the right reading. `proofs/Cases.antt` proves both
-- tables by computation.
use Rattle.std.specs.Prelude.{ℕ, zero, suc, ◌≡◌, Bool, true, false, cond, Float, length, get_or}
use mathlib.Core.List.{List, [], ◌∷◌, map, flatten}
use Rattle.std.specs.Float.{binary64}
use Rattle.std.specs.Float.Ieee.{of_bits}
use Rattle.model.specs.declared.ParamValue.TheVariants as value
use Rattle.model.specs.declared.Distribution.{Distribution}
use Rattle.model.specs.declared.Distribution.TheVariants as dist
use Rattle.model.specs.declared.Edition.TheVariants.{First, Second}
use Rattle.model.specs.Lists.{keep_below}
use Rattle.model.specs.Real.{nought, half, unit, small_span, infinity}
use Rattle.model.specs.Draw.{drawn, step, draw_word}
use Rattle.model.specs.Numbers.{round_of, R}
use Rattle.model.specs.Plan.{Plan, Setting, measured_plan}
use Rattle.model.specs.Row.{dominates, feasible, constrained_dominates}
use Rattle.model.specs.Front.{front}
use Rattle.model.specs.Papers.Deb2002.{in_front}
use Rattle.model.specs.Reference.{das_dennis, lattice, point_count, auto_divisions}
use Rattle.model.specs.Association.{Request, in_edition, dominance, intercept_of, line_of}
use Rattle.model.specs.Kept.{before, split_front, open_lines, least_lines, niche_count, selected}
use Rattle.model.specs.Setting.{extract, sort_by_param, crossover, children, rank_of}
use Rattle.model.specs.PoolFile.{written, ascii}
use Rattle.model.specs.Calls.{printed}

-- ---- plans and requests of the examples

-- 0.25, 3.0 and 4.0
abbrev pub quarter : Float
quarter = of_bits binary64 0x3fd0_0000_0000_0000

abbrev pub three : Float
three = of_bits binary64 0x4008_0000_0000_0000

abbrev pub four : Float
four = of_bits binary64 0x4010_0000_0000_0000

-- a row as a function
abbrev pub row_from : List Float → ℕ → Float
row_from row j = get_or row j nought

unfoldable pub plan_with : List Float → List Float → Plan
plan_with row constraints = measured_plan (length row) row (length constraints) constraints

-- a selection that minimises both of two objectives
unfoldable pub request_with : ℕ → ℕ → List Plan → Request
request_with divisions size plans = record {
  edition = First;
  marks = 0 ∷ 0 ∷ [];
  divisions = divisions;
  size = size;
  count = length plans;
  plans = λ p. get_or plans p (plan_with [] []);
  ideal = infinity ∷ infinity ∷ [];
  state = 5;
}

-- the bytes of a file of numbers
unfoldable pub file_of : List ℕ → List ℕ
file_of ns = flatten (map written ns)

-- "For m 2, H 1, size 2, three plans, seed 5, both minimised, rows (0,0), (1,3), (4,1), no constraints"
unfoldable pub example_file : List ℕ
example_file = file_of (2 ∷ 1 ∷ 2 ∷ 3 ∷ 5 ∷ 0 ∷ 0
    ∷ 0 ∷ 0 ∷ 0
    ∷ 0x3ff0_0000_0000_0000 ∷ 0x4008_0000_0000_0000 ∷ 0
    ∷ 0x4010_0000_0000_0000 ∷ 0x3ff0_0000_0000_0000 ∷ 0
    ∷ [])

-- two plans of one objective, 0 and 1e-10
unfoldable pub span_of_one : Request
span_of_one = record {
  edition = First;
  marks = 0 ∷ [];
  divisions = 1;
  size = 1;
  count = 2;
  plans = λ p. plan_with (cond (rest p) small_span nought ∷ []) [];
  ideal = infinity ∷ [];
  state = 0;
}
  where
    rest : ℕ → Bool
    rest zero = false
    rest (suc p) = true

-- a dimension with two choices, and the state after which the generator stands at 0, so that the draw from it is 0
abbrev pub two_choices : ℕ → Distribution
two_choices d = dist.Categorical (record { n_choices = 2 })

abbrev pub before_zero : ℕ
before_zero = 0x9995_b5b6_2153_5015

-- THE P CASES
pub record PCases : Type 0 where
  -- P1 m 3, H 2: (0,0,1) (0,.5,.5) (0,1,0) (.5,0,.5) (.5,.5,0) (1,0,0)
  pub p1 : das_dennis 3 2 ≡
      (nought ∷ nought ∷ unit ∷ []) ∷ (nought ∷ half ∷ half ∷ []) ∷ (nought ∷ unit ∷ nought ∷ [])
      ∷ (half ∷ nought ∷ half ∷ []) ∷ (half ∷ half ∷ nought ∷ []) ∷ (unit ∷ nought ∷ nought ∷ []) ∷ []
  -- P2 m 1, H 7: (1)
  pub p2 : das_dennis 1 7 ≡ (unit ∷ []) ∷ []
  -- P3 automatic, m 2: target 200 gives 199, target 201 gives 12
  pub p3_reached : auto_divisions 2 200 ≡ 199
  pub p3_missed : auto_divisions 2 201 ≡ 12
  -- P4 m 3, target 100: 13, 105 lines
  pub p4 : auto_divisions 3 100 ≡ 13
  pub p4_count : point_count 3 13 ≡ 105
  pub p4_lines : length (lattice 3 13) ≡ 105
  -- P5 equal rows: neither dominates
  pub p5 : dominates 2 (row_from (unit ∷ three ∷ [])) (row_from (unit ∷ three ∷ [])) ≡ false
  -- P6 violations 0.5 and 0.25: the second dominates; a constraint of exactly 0 is feasible
  pub p6_first : constrained_dominates 1 (row_from (nought ∷ [])) (half ∷ []) (row_from (unit ∷ [])) (quarter ∷ []) ≡ false
  pub p6_second : constrained_dominates 1 (row_from (unit ∷ [])) (quarter ∷ []) (row_from (nought ∷ [])) (half ∷ []) ≡ true
  pub p6_zero : feasible (nought ∷ []) ≡ true
  -- P7 the listing above
  pub p7 : printed example_file ≡ ascii "plans 3 kept 2\n0 0 0 1\n1 1 0 0\n2 1 1 2\n"
  -- P8 round: 2.5 to 3, -2.5 to -3
  pub p8 : round_of (of_bits binary64 0x4004_0000_0000_0000) ≡ three
  pub p8_below : round_of (of_bits binary64 0xc004_0000_0000_0000) ≡ of_bits binary64 0xc008_0000_0000_0000
  -- P9 R(1, 31) = 1
  pub p9 : R unit 31 ≡ unit
  -- P10 greatest - ideal exactly 1e-10: intercept 1.0
  pub p10 : intercept_of span_of_one 0 ≡ unit
  -- P11 probability 0 and draw 0: crossover runs, and takes a second word that swaps the two choices
  pub p11 : crossover two_choices 1 nought 31 (value.Categorical 0 ∷ []) (value.Categorical 1 ∷ []) before_zero
      ≡ drawn (children (value.Categorical 1 ∷ []) (value.Categorical 0 ∷ [])) (step 0)
  -- P12 seed 0: first word 14057B7EE362FA31 hexadecimal
  pub p12 : (draw_word 0).value ≡ 0x1405_7B7E_E362_FA31

-- ---- the traps

-- (0,1), (1,0) and a plan whose squared distance from line 1 is smaller than that from line 0, while both have the same root
unfoldable pub near_tie : Request
near_tie = request_with 2 2 (plan_with (nought ∷ unit ∷ []) []
    ∷ plan_with (unit ∷ nought ∷ []) []
    ∷ plan_with (of_bits binary64 0x3fd5_4c00_0000_0000 ∷ of_bits binary64 0x3fe9_b525_6b76_ed6c ∷ []) []
    ∷ [])

-- (0,1), (1,0) and two plans of line 1 of five: plan 3's squared distance from it is smaller than plan 2's, while both have the same root
unfoldable pub near_members : Request
near_members = request_with 4 3 (plan_with (nought ∷ unit ∷ []) []
    ∷ plan_with (unit ∷ nought ∷ []) []
    ∷ plan_with (of_bits binary64 0x3fc8_0000_0000_0000 ∷ of_bits binary64 0x3fe6_0000_0000_0000 ∷ []) []
    ∷ plan_with (of_bits binary64 0x3fd0_d3fe_bebc_5fa2 ∷ of_bits binary64 0x3fe5_3dfe_1e1a_8f73 ∷ []) []
    ∷ [])

-- (0,1), (1,0), (1.5,0.5) and (0.5,1.5): plan 3 is freed by plan 0, plan 2 only later by plan 1
unfoldable pub freed_later : Request
freed_later = request_with 1 3 (plan_with (nought ∷ unit ∷ []) []
    ∷ plan_with (unit ∷ nought ∷ []) []
    ∷ plan_with (of_bits binary64 0x3ff8_0000_0000_0000 ∷ half ∷ []) []
    ∷ plan_with (half ∷ of_bits binary64 0x3ff8_0000_0000_0000 ∷ []) []
    ∷ [])

-- a plan with the better row that breaks its constraint, and one that keeps it
unfoldable pub better_but_infeasible : Request
better_but_infeasible = request_with 1 2 (plan_with (nought ∷ nought ∷ []) (unit ∷ []) ∷ plan_with (unit ∷ unit ∷ []) (nought ∷ []) ∷ [])

-- document 01's example
unfoldable pub example : Request
example = request_with 1 2 (plan_with (nought ∷ nought ∷ []) [] ∷ plan_with (unit ∷ three ∷ []) [] ∷ plan_with (four ∷ unit ∷ []) [] ∷ [])

-- parameter 7 arrives before parameter 3
abbrev pub arrived : List Setting
arrived = record { param = 7; kind = 2; value = 1 } ∷ record { param = 3; kind = 2; value = 0 } ∷ []

-- THE TRAPS: the right reading, and beside it the wrong one
pub record Traps : Type 0 where
  -- "ordering distances by squares alone": so edition 2 does (document 02, M-105), at the plan between two lines and at the two members of one line
  pub by_roots : line_of near_tie 2 ≡ 0
  pub by_squares : line_of (in_edition Second near_tie) 2 ≡ 1
  pub member_by_roots : (selected near_members).kept ≡ 1 ∷ 0 ∷ 2 ∷ []
  pub member_by_squares : (selected (in_edition Second near_members)).kept ≡ 1 ∷ 0 ∷ 3 ∷ []
  -- "listing a later front by index"
  pub as_freed : front (dominance freed_later) 4 1 ≡ 3 ∷ 2 ∷ []
  pub by_index : keep_below (in_front (dominance freed_later) 4 1) 4 ≡ 2 ∷ 3 ∷ []
  -- "ranking tournaments with constraints", which is edition 1's trap and edition 2's rule (M-101)
  pub rank_by_rows : rank_of better_but_infeasible (0 ∷ 1 ∷ []) 0 ≡ 0
  pub rank_by_rows_other : rank_of better_but_infeasible (0 ∷ 1 ∷ []) 1 ≡ 1
  pub rank_constrained : rank_of (in_edition Second better_but_infeasible) (0 ∷ 1 ∷ []) 0 ≡ 1
  pub rank_constrained_other : rank_of (in_edition Second better_but_infeasible) (0 ∷ 1 ∷ []) 1 ≡ 0
  -- "drawing nothing when one line is left": at the one open place of document 01's example
  pub one_line : least_lines (niche_count (line_of example) (before example)) (open_lines (line_of example) 2 (split_front example)) ≡ 1 ∷ []
  pub one_draw : (selected example).state ≡ step 5
  -- "ordering settings as they arrive"
  pub by_parameter : extract two_choices 2 (sort_by_param arrived) 0 ≡ drawn (value.Categorical 0 ∷ value.Categorical 1 ∷ []) 0
  pub as_they_arrive : extract two_choices 2 arrived 0 ≡ drawn (value.Categorical 1 ∷ value.Categorical 0 ∷ []) 0
