-- Document 01, "Setting and dimension": settings, bounds, sampling, extraction, crossover, mutation and the generation step.
use Rattle.std.specs.Prelude.{ℕ, zero, suc, ◌+◌, ◌*◌, ◌/◌, ◌%◌, ◌^◌, ◌<◌, ◌≡◌, Bool, true, false, cond, not, ◌&&◌, ℤ, pos, negsuc, ◌+ℤ◌, ◌-ℤ◌, ◌*ℤ◌, eqb, leb, ltb, Float, length, get_or, take, Option, None, Some}
use mathlib.Core.List.{List, [], ◌∷◌, ◌++◌, map, flatten}
use Rattle.std.specs.Int.Signed.{le_z, lt_z, quot_z}
use Rattle.std.specs.Float.{nan, binary64}
use Rattle.std.specs.Float.Ieee.{lt, le, of_bits, to_signed, to_unsigned}
use Rattle.model.specs.declared.ParamValue.{ParamValue}
use Rattle.model.specs.declared.ParamValue.TheVariants as value
use Rattle.model.specs.declared.DimensionInfo.{DimensionInfo}
use Rattle.model.specs.declared.Distribution.{Distribution}
use Rattle.model.specs.declared.Distribution.TheVariants as dist
use Rattle.model.specs.declared.FloatDistribution.{FloatDistribution}
use Rattle.model.specs.declared.IntDistribution.{IntDistribution}
use Rattle.model.specs.declared.Operators as given
use Rattle.model.specs.Lists.{list_below}
use Rattle.model.specs.Real.{◌⊕◌, ◌⊖◌, ◌⊗◌, ◌⊘◌, real, bits, nought, half, unit, two, infinity, of_whole, absolute, within, clamp}
use Rattle.model.specs.Draw.{Drawn, drawn, draw_usize, draw_i64, f64_range, in_turn, draw_all}
use Rattle.model.specs.Numbers.{round_of, midpoint, P, R}
use Rattle.model.specs.Plan.{Plan, Setting, max_settings}
use Rattle.model.specs.Row.{row_beats}
use Rattle.model.specs.Front.{front_of}
use Rattle.model.specs.Edition.{ranks_by_rows, moves_to_step}
use Rattle.model.specs.Association.{Request, dominance}
use Rattle.model.specs.Kept.{Selected, selected, unselected}

-- ---- settings as words

-- "A setting is a Float, an Int or a Categorical value": the number of each kind
abbrev pub kind_of : ParamValue → ℕ
kind_of (value.Float x) = 0
kind_of (value.Int n) = 1
kind_of (value.Categorical c) = 2

abbrev pub kind_of_dimension : Distribution → ℕ
kind_of_dimension (dist.Float d) = 0
kind_of_dimension (dist.Int d) = 1
kind_of_dimension (dist.Categorical d) = 2

-- an Int n is 2n from zero up and -2n - 1 below
abbrev pub word_of_int : ℤ → ℕ
word_of_int (pos n) = 2 * n
word_of_int (negsuc n) = 2 * n + 1

unfoldable pub int_of_word : ℕ → ℤ
int_of_word w = cond (eqb (w % 2) 0) (pos (w / 2)) (negsuc (w / 2))

-- a Float is its bits, a Categorical its number
abbrev pub to_word : ParamValue → ℕ
to_word (value.Float x) = bits x
to_word (value.Int n) = word_of_int n
to_word (value.Categorical c) = c

abbrev pub of_word : ℕ → ℕ → ParamValue
of_word zero w = value.Float (real w)
of_word (suc zero) w = value.Int (int_of_word w)
of_word (suc (suc k)) w = value.Categorical w

-- ---- bounds

-- 2^53 and -2^53, as doubles and as whole numbers
abbrev pub max_bound : Float
max_bound = of_bits binary64 0x4340_0000_0000_0000

abbrev pub min_bound : Float
min_bound = of_bits binary64 0xc340_0000_0000_0000

abbrev pub max_whole : ℤ
max_whole = pos (2 ^ 53)

abbrev pub min_whole : ℤ
min_whole = negsuc 9007199254740991

abbrev pub step_above0 : Option ℤ → Bool
step_above0 None = true
step_above0 (Some n) = le_z (pos 1) n

-- at most so many dimensions: one number with a plan's settings, since a candidate has a setting for each dimension
abbrev pub max_dims : ℕ
max_dims = max_settings

-- the dimension at each place of an array; `no_dimension` is what the logic reads past its end, which nothing here does
abbrev pub no_dimension : DimensionInfo
no_dimension = record { distribution = dist.Float (record { low = nan; high = nan; log_scale = false; step = None }) }

abbrev pub dimensions_of : List DimensionInfo → ℕ → Distribution
dimensions_of infos d = (get_or infos d no_dimension).distribution

-- What refusal 6 asks of a dimension: low not above high, bounds finite and within 2^53 in magnitude, no log scale, an Int step from 1 on, 1 to 65,536 choices.
-- Document 02, M-103: "6 no longer covers a Float step".
unfoldable pub valid_bounds : Distribution → Bool
valid_bounds (dist.Float d) = le d.low d.high && (within min_bound max_bound d.low && (within min_bound max_bound d.high && not d.log_scale))
valid_bounds (dist.Int d) =
    le_z d.low d.high && (le_z min_whole d.low && (le_z d.high max_whole && (not d.log_scale && step_above0 d.step)))
valid_bounds (dist.Categorical d) = leb 1 d.n_choices && leb d.n_choices 65536

-- how many steps a Float's bounds are apart: (high - low) / step, each operation rounded
abbrev pub steps_of : Float → Float → Float → Float
steps_of low high step = (high ⊖ low) ⊘ step

-- What refusal 12 asks of a dimension. Document 02, M-103: "the step is not finite, not above 0, or (high - low) / step exceeds 2^53". The quotient of bounds that
-- refusal 6 lets pass by a finite step above 0 is no NaN.
unfoldable pub valid_float_step : Float → Float → Option Float → Bool
valid_float_step low high None = true
valid_float_step low high (Some step) = lt nought step && (lt step infinity && le (steps_of low high step) max_bound)

unfoldable pub valid_step : Distribution → Bool
valid_step (dist.Float d) = valid_float_step d.low d.high d.step
valid_step (dist.Int d) = true
valid_step (dist.Categorical d) = true

-- a dimension that both let pass
unfoldable pub valid_dimension : Distribution → Bool
valid_dimension d = valid_bounds d && valid_step d

-- a setting is of its dimension's kind and within its bounds
unfoldable pub in_bounds : Distribution → ParamValue → Bool
in_bounds (dist.Float d) (value.Float x) = within d.low d.high x
in_bounds (dist.Float d) (value.Int n) = false
in_bounds (dist.Float d) (value.Categorical c) = false
in_bounds (dist.Int d) (value.Float x) = false
in_bounds (dist.Int d) (value.Int n) = le_z d.low n && le_z n d.high
in_bounds (dist.Int d) (value.Categorical c) = false
in_bounds (dist.Categorical d) (value.Float x) = false
in_bounds (dist.Categorical d) (value.Int n) = false
in_bounds (dist.Categorical d) (value.Categorical c) = ltb c d.n_choices

-- ---- sampling

-- an Int without a step is drawn from low..=high; with one, k is drawn from 0..=(high - low) / step and the value is low + k × step
unfoldable pub sample_int : ℤ → ℤ → Option ℤ → ℕ → Drawn ℤ
sample_int low high None s = draw_i64 low high s
sample_int low high (Some n) s = let k = draw_i64 (pos 0) (quot_z (high -ℤ low) n) s in drawn (low +ℤ k.value *ℤ n) k.state

-- Document 02, M-103: "k from 0 to floor((high - low) / step)": the greatest k. A cast drops the fraction, which leaves the floor of what is not below 0.
abbrev pub last_step : Float → Float → Float → ℤ
last_step low high step = to_signed 63 (steps_of low high step)

-- "value low + k × step, here also clamped"
abbrev pub on_step : Float → Float → Float → ℤ → Float
on_step low high step k = clamp low high (low ⊕ (of_whole k ⊗ step))

-- a Float without a step is drawn from low..high; with one, k is drawn from 0..=last_step
unfoldable pub sample_float : Float → Float → Option Float → ℕ → Drawn Float
sample_float low high None s = f64_range low high s
sample_float low high (Some step) s =
    let k = draw_i64 (pos 0) (last_step low high step) s in drawn (on_step low high step k.value) k.state

-- `sample_random`
unfoldable pub sample_random : Distribution → ℕ → Drawn ParamValue
sample_random (dist.Float d) s = let x = sample_float d.low d.high d.step s in drawn (value.Float x.value) x.state
sample_random (dist.Int d) s = let n = sample_int d.low d.high d.step s in drawn (value.Int n.value) n.state
sample_random (dist.Categorical d) s = let c = draw_usize d.n_choices s in drawn (value.Categorical c.value) c.state

-- a candidate: a setting for each of n dimensions, drawn in their order
abbrev pub sample_all : (ℕ → Distribution) → ℕ → ℕ → Drawn (List ParamValue)
sample_all dims n s = draw_all (λ d settings. sample_random (dims d)) n s

-- so many candidates, one after the other
abbrev pub sample_candidates : (ℕ → Distribution) → ℕ → ℕ → ℕ → Drawn (List (List ParamValue))
sample_candidates dims n k s = draw_all (λ i candidates. sample_all dims n) k s

-- ---- extraction

-- "`extract_trial_params` sorts by `ParamId`": a setting put before the first whose parameter number is not smaller
unfoldable pub insert : Setting → List Setting → List Setting
insert x [] = x ∷ []
insert x (y ∷ ys) = cond (leb x.param y.param) (x ∷ y ∷ ys) (y ∷ insert x ys)

unfoldable pub sort_by_param : List Setting → List Setting
sort_by_param [] = []
sort_by_param (x ∷ xs) = insert x (sort_by_param xs)

abbrev pub no_setting : Setting
no_setting = record { param = 0; kind = 0; value = 0 }

-- "matches by position; missing ones are drawn, extra ones ignored"
unfoldable pub extract_one : Distribution → List Setting → ℕ → ℕ → Drawn ParamValue
extract_one d sorted i s =
    let x = get_or sorted i no_setting in
    cond (ltb i (length sorted)) (drawn (of_word x.kind x.value) s) (sample_random d s)

abbrev pub extract : (ℕ → Distribution) → ℕ → List Setting → ℕ → Drawn (List ParamValue)
extract dims n sorted s = draw_all (λ d settings. extract_one (dims d) sorted d) n s

-- the parents: the settings of each kept plan, in the kept list's order; the draw of the i-th looks at no other
abbrev pub parent_in : (ℕ → Distribution) → ℕ → (ℕ → Plan) → List ℕ → ℕ → List (List ParamValue) → ℕ → Drawn (List ParamValue)
parent_in dims n plans kept i parents s = extract dims n (sort_by_param (plans (get_or kept i 0)).settings) s

abbrev pub parents_of : (ℕ → Distribution) → ℕ → (ℕ → Plan) → List ℕ → ℕ → Drawn (List (List ParamValue))
parents_of dims n plans kept s = draw_all (parent_in dims n plans kept) (length kept) s

-- ---- crossover; k is eta + 1

-- the exponent of an eta that is a whole number from 0 to 99
abbrev pub exponent_of : Float → ℕ
exponent_of eta = suc (to_unsigned 64 eta)

pub record Pair : Type 0 where
  pub first : ParamValue
  pub second : ParamValue

abbrev pub pair : ParamValue → ParamValue → Pair
pair a b = record { first = a; second = b }

-- 1e-14
abbrev pub small_gap : Float
small_gap = of_bits binary64 0x3d06_849b_86a1_2b9b

-- a draw from 0.0..1.0
abbrev pub draw_unit : ℕ → Drawn Float
draw_unit s = f64_range nought unit s

-- the spread of `sbx_crossover_f64`: (2u)^(1/k) up to one half, and (1 / (2 (1 - u)))^(1/k) above
abbrev pub spread_argument : Float → Float
spread_argument u = cond (le u half) (two ⊗ u) (unit ⊘ (two ⊗ (unit ⊖ u)))

unfoldable pub spread : Float → ℕ → Float
spread u k = R (spread_argument u) k

-- the child nearer to p: the midpoint of (1 + beta) p and (1 - beta) q, held within the bounds
abbrev pub sbx_first : Float → Float → Float → Float → Float → Float
sbx_first low high beta p q = clamp low high (midpoint ((unit ⊕ beta) ⊗ p) ((unit ⊖ beta) ⊗ q))

-- the child nearer to q
abbrev pub sbx_second : Float → Float → Float → Float → Float → Float
sbx_second low high beta p q = clamp low high (midpoint ((unit ⊖ beta) ⊗ p) ((unit ⊕ beta) ⊗ q))

-- a double as an Int of a dimension: rounded, and held within the bounds
abbrev pub clamp_int : ℤ → ℤ → ℤ → ℤ
clamp_int low high n = cond (lt_z n low) low (cond (lt_z high n) high n)

abbrev pub to_int : ℤ → ℤ → Float → ℤ
to_int low high x = clamp_int low high (to_signed 63 (round_of x))

-- "Floats closer than 1e-14 and equal Ints are skipped without a draw; Categorical pairs always take one."
unfoldable pub cross_float : FloatDistribution → Float → Float → ℕ → ℕ → Drawn Pair
cross_float d p q k s =
    let u = draw_unit s in
    let beta = spread u.value k in
    let crossed = pair (value.Float (sbx_first d.low d.high beta p q)) (value.Float (sbx_second d.low d.high beta p q)) in
    cond (lt (absolute (p ⊖ q)) small_gap) (drawn (pair (value.Float p) (value.Float q)) s) (drawn crossed u.state)

unfoldable pub cross_int : IntDistribution → ℤ → ℤ → ℕ → ℕ → Drawn Pair
cross_int d p q k s =
    let u = draw_unit s in
    let beta = spread u.value k in
    let low = of_whole d.low in
    let high = of_whole d.high in
    let first = to_int d.low d.high (sbx_first low high beta (of_whole p) (of_whole q)) in
    let second = to_int d.low d.high (sbx_second low high beta (of_whole p) (of_whole q)) in
    cond (le_z p q && le_z q p) (drawn (pair (value.Int p) (value.Int q)) s) (drawn (pair (value.Int first) (value.Int second)) u.state)

unfoldable pub cross_categorical : ℕ → ℕ → ℕ → Drawn Pair
cross_categorical p q s =
    let u = draw_unit s in
    drawn (cond (lt u.value half) (pair (value.Categorical q) (value.Categorical p)) (pair (value.Categorical p) (value.Categorical q))) u.state

-- one dimension, by cases on the two settings; settings of different kinds, which no accepted plan has, stand as they are
abbrev pub cross_floats : Distribution → Float → Float → ℕ → ℕ → Drawn Pair
cross_floats (dist.Float d) p q k s = cross_float d p q k s
cross_floats (dist.Int d) p q k s = drawn (pair (value.Float p) (value.Float q)) s
cross_floats (dist.Categorical d) p q k s = drawn (pair (value.Float p) (value.Float q)) s

abbrev pub cross_ints : Distribution → ℤ → ℤ → ℕ → ℕ → Drawn Pair
cross_ints (dist.Float d) p q k s = drawn (pair (value.Int p) (value.Int q)) s
cross_ints (dist.Int d) p q k s = cross_int d p q k s
cross_ints (dist.Categorical d) p q k s = drawn (pair (value.Int p) (value.Int q)) s

abbrev pub cross_one : Distribution → ParamValue → ParamValue → ℕ → ℕ → Drawn Pair
cross_one d (value.Float p) (value.Float q) k s = cross_floats d p q k s
cross_one d (value.Float p) (value.Int q) k s = drawn (pair (value.Float p) (value.Int q)) s
cross_one d (value.Float p) (value.Categorical q) k s = drawn (pair (value.Float p) (value.Categorical q)) s
cross_one d (value.Int p) (value.Float q) k s = drawn (pair (value.Int p) (value.Float q)) s
cross_one d (value.Int p) (value.Int q) k s = cross_ints d p q k s
cross_one d (value.Int p) (value.Categorical q) k s = drawn (pair (value.Int p) (value.Categorical q)) s
cross_one d (value.Categorical p) (value.Float q) k s = drawn (pair (value.Categorical p) (value.Float q)) s
cross_one d (value.Categorical p) (value.Int q) k s = drawn (pair (value.Categorical p) (value.Int q)) s
cross_one d (value.Categorical p) (value.Categorical q) k s = cross_categorical p q s

pub record Children : Type 0 where
  pub first : List ParamValue
  pub second : List ParamValue

abbrev pub children : List ParamValue → List ParamValue → Children
children a b = record { first = a; second = b }

abbrev pub no_value : ParamValue
no_value = value.Float nan

abbrev pub setting_of : List ParamValue → ℕ → ParamValue
setting_of settings i = get_or settings i no_value

-- dimension after dimension: each child takes one of the two settings
abbrev pub with_pair : Children → Pair → Children
with_pair c v = children (c.first ++ (v.first ∷ [])) (c.second ++ (v.second ∷ []))

abbrev pub cross_all : (ℕ → Distribution) → ℕ → List ParamValue → List ParamValue → ℕ → ℕ → Drawn Children
cross_all dims n p q k s = in_turn with_pair (children [] []) (λ d so_far. cross_one (dims d) (setting_of p d) (setting_of q d) k) n s

-- "`crossover` runs unless its draw exceeds the probability"
abbrev pub crossover_runs : Float → Float → Bool
crossover_runs probability u = not (lt probability u)

unfoldable pub crossover : (ℕ → Distribution) → ℕ → Float → ℕ → List ParamValue → List ParamValue → ℕ → Drawn Children
crossover dims n probability k p q s =
    let u = draw_unit s in
    cond (crossover_runs probability u.value) (cross_all dims n p q k u.state) (drawn (children p q) u.state)

-- ---- mutation; k is eta + 1

-- what `polynomial_mutation_f64` takes a root of, for a draw below one half and for one from there on; `range` is high - low
abbrev pub below_argument : Float → Float → Float → ℕ → Float → Float
below_argument x low range k u = (two ⊗ u) ⊕ ((unit ⊖ (two ⊗ u)) ⊗ P (unit ⊖ ((x ⊖ low) ⊘ range)) k)

abbrev pub above_argument : Float → Float → Float → ℕ → Float → Float
above_argument x high range k u = (two ⊗ (unit ⊖ u)) ⊕ ((two ⊗ (u ⊖ half)) ⊗ P (unit ⊖ ((high ⊖ x) ⊘ range)) k)

-- how far it moves x, as a share of the range
unfoldable pub mutation_shift : Float → Float → Float → Float → ℕ → Float → Float
mutation_shift x low high range k u =
    let below = R (below_argument x low range k u) k ⊖ unit in
    let above = unit ⊖ R (above_argument x high range k u) k in
    cond (lt u half) below above

-- "`polynomial_mutation_f64` draws before it looks at the range."
unfoldable pub polynomial_mutation : Float → Float → Float → ℕ → ℕ → Drawn Float
polynomial_mutation x low high k s =
    let u = draw_unit s in
    let range = high ⊖ low in
    let moved = clamp low high (x ⊕ (mutation_shift x low high range k u.value ⊗ range)) in
    drawn (cond (le range nought) x moved) u.state

abbrev pub mutate_float : Distribution → Float → ℕ → ℕ → Drawn ParamValue
mutate_float (dist.Float d) x k s = let y = polynomial_mutation x d.low d.high k s in drawn (value.Float y.value) y.state
mutate_float (dist.Int d) x k s = drawn (value.Float x) s
mutate_float (dist.Categorical d) x k s = drawn (value.Float x) s

abbrev pub mutate_int : Distribution → ℤ → ℕ → ℕ → Drawn ParamValue
mutate_int (dist.Float d) n k s = drawn (value.Int n) s
mutate_int (dist.Int d) n k s =
    let y = polynomial_mutation (of_whole n) (of_whole d.low) (of_whole d.high) k s in
    drawn (value.Int (to_int d.low d.high y.value)) y.state
mutate_int (dist.Categorical d) n k s = drawn (value.Int n) s

abbrev pub mutate_categorical : Distribution → ℕ → ℕ → Drawn ParamValue
mutate_categorical (dist.Float d) c s = drawn (value.Categorical c) s
mutate_categorical (dist.Int d) c s = drawn (value.Categorical c) s
mutate_categorical (dist.Categorical d) c s = sample_random (dist.Categorical d) s

abbrev pub mutate_one : Distribution → ParamValue → ℕ → ℕ → Drawn ParamValue
mutate_one d (value.Float x) k s = mutate_float d x k s
mutate_one d (value.Int n) k s = mutate_int d n k s
mutate_one d (value.Categorical c) k s = mutate_categorical d c s

-- each dimension mutates where its own draw is below 1 / n
unfoldable pub mutate_maybe : Float → Distribution → ParamValue → ℕ → ℕ → Drawn ParamValue
mutate_maybe probability d v k s =
    let u = draw_unit s in
    cond (le probability u.value) (drawn v u.state) (mutate_one d v k u.state)

-- the first j of n dimensions
abbrev pub mutate_first : (ℕ → Distribution) → ℕ → ℕ → List ParamValue → ℕ → ℕ → Drawn (List ParamValue)
mutate_first dims n j c k s = draw_all (λ d settings. mutate_maybe (unit ⊘ of_whole (pos n)) (dims d) (setting_of c d) k) j s

abbrev pub mutate : (ℕ → Distribution) → ℕ → List ParamValue → ℕ → ℕ → Drawn (List ParamValue)
mutate dims n c k s = mutate_first dims n n c k s

-- ---- Floats moved to a step (document 02, M-103)

-- "k = round((v - low) / step), held within the range of k above"
abbrev pub nearest_step : Float → Float → Float → Float → ℤ
nearest_step low high step v = to_int (pos 0) (last_step low high step) ((v ⊖ low) ⊘ step)

unfoldable pub move_float : Float → Float → Option Float → Float → Float
move_float low high None v = v
move_float low high (Some step) v = on_step low high step (nearest_step low high step v)

-- a setting: "every Float of a dimension with a step"
unfoldable pub move_setting : Distribution → ParamValue → ParamValue
move_setting (dist.Float d) (value.Float v) = value.Float (move_float d.low d.high d.step v)
move_setting (dist.Float d) (value.Int n) = value.Int n
move_setting (dist.Float d) (value.Categorical c) = value.Categorical c
move_setting (dist.Int d) v = v
move_setting (dist.Categorical d) v = v

-- a child of n dimensions, and children, where they are moved
unfoldable pub move_child : (ℕ → Distribution) → ℕ → List ParamValue → List ParamValue
move_child dims n c = list_below (λ d. move_setting (dims d) (setting_of c d)) n

abbrev pub moved_by : Bool → (ℕ → Distribution) → ℕ → List (List ParamValue) → List (List ParamValue)
moved_by true dims n born = map (move_child dims n) born
moved_by false dims n born = born

-- ---- the generation step

-- what breeding is given beside the pool
pub record Operators : Type 0 where
  pub dims : ℕ → Distribution
  pub dim_count : ℕ
  pub probability : Float
  pub crossover_eta_of : Float
  pub mutation_eta_of : Float

abbrev pub operators : List DimensionInfo → ℕ → Float → Float → Float → Operators
operators infos n probability crossover_eta_of mutation_eta_of = record {
  dims = dimensions_of infos;
  dim_count = n;
  probability = probability;
  crossover_eta_of = crossover_eta_of;
  mutation_eta_of = mutation_eta_of;
}

-- the same as code is given them
abbrev pub operators_in : given.Operators → Operators
operators_in o = operators o.dimensions o.n_dims o.crossover_prob o.crossover_eta o.mutation_eta

-- two parents are drawn, and the one of smaller rank wins, the first on a tie
unfoldable pub tournament : (ℕ → ℕ) → ℕ → ℕ → Drawn ℕ
tournament ranks n s =
    let a = draw_usize n s in
    let b = draw_usize n a.state in
    drawn (cond (leb (ranks a.value) (ranks b.value)) a.value b.value) b.state

-- two winners are crossed, and both children mutated
unfoldable pub brood : Operators → List (List ParamValue) → (ℕ → ℕ) → ℕ → Drawn Children
brood o parents ranks s =
    let p = tournament ranks (length parents) s in
    let q = tournament ranks (length parents) p.state in
    let c = crossover o.dims o.dim_count o.probability (exponent_of o.crossover_eta_of) (get_or parents p.value []) (get_or parents q.value []) q.state in
    let a = mutate o.dims o.dim_count c.value.first (exponent_of o.mutation_eta_of) c.state in
    let b = mutate o.dims o.dim_count c.value.second (exponent_of o.mutation_eta_of) a.state in
    drawn (children a.value b.value) b.state

-- the children of so many broods, one after the other: both of each
abbrev pub with_both : List (List ParamValue) → Children → List (List ParamValue)
with_both born c = born ++ (c.first ∷ c.second ∷ [])

abbrev pub broods : Operators → List (List ParamValue) → (ℕ → ℕ) → ℕ → ℕ → Drawn (List (List ParamValue))
broods o parents ranks k s = in_turn with_both [] (λ i born. brood o parents ranks) k s

-- "An odd size drops the last second child after its mutation."
unfoldable pub offspring_of : Operators → List (List ParamValue) → (ℕ → ℕ) → ℕ → ℕ → Drawn (List (List ParamValue))
offspring_of o parents ranks size s = let b = broods o parents ranks ((size + 1) / 2) s in drawn (take size b.value) b.state

-- what a generation step hands out: what its selection does, the new candidates, and the generator's state after them
pub record Generation : Type 0 where
  pub selection : Selected
  pub offspring : List (List ParamValue)
  pub state : ℕ

-- the rank of the i-th kept plan: its front in the pool of n plans, by a domination
abbrev pub rank_in : (ℕ → ℕ → Bool) → ℕ → List ℕ → ℕ → ℕ
rank_in d n kept i = front_of d n (get_or kept i 0)

-- "`nsga3_generate_offspring` ranks by rows only"; M-101: in edition 2 by the constrained fronts, which selection used
abbrev pub rank_beats : Request → ℕ → ℕ → Bool
rank_beats r = cond (ranks_by_rows r.edition) (row_beats r.marks r.plans) (dominance r)

unfoldable pub rank_of : Request → List ℕ → ℕ → ℕ
rank_of r kept i = rank_in (rank_beats r) r.count kept i

-- the parents of a kept list, by their ranks, and their offspring, as crossed and mutated
abbrev pub bred_of : Operators → (ℕ → Plan) → (ℕ → ℕ) → List ℕ → ℕ → ℕ → Drawn (List (List ParamValue))
bred_of o plans ranks kept size s =
    let parents = parents_of o.dims o.dim_count plans kept s in offspring_of o parents.value ranks size parents.state

-- the offspring of a kept list of a request. M-103: "In edition 2 every Float of a dimension with a step in a bred child is moved once, after mutation .. edition 1
-- leaves it off the step, like the Rust."
unfoldable pub born_of : Operators → Request → List ℕ → ℕ → Drawn (List (List ParamValue))
born_of o r kept s =
    let off = bred_of o r.plans (rank_of r kept) kept r.size s in
    drawn (moved_by (moves_to_step r.edition) o.dims o.dim_count off.value) off.state

unfoldable pub generation_of : Operators → Request → Generation
generation_of o r =
    let sel = selected r in
    let off = born_of o r sel.kept sel.state in
    record { selection = sel; offspring = off.value; state = off.state }

-- "A pool of one plan breeds nothing: every setting of the size new candidates is drawn." It selects nothing either.
unfoldable pub generation_of_one : Operators → Request → Generation
generation_of_one o r =
    let off = sample_candidates o.dims o.dim_count r.size r.state in
    record { selection = unselected r; offspring = off.value; state = off.state }

abbrev pub by_pool : Bool → Operators → Request → Generation
by_pool true o r = generation_of_one o r
by_pool false o r = generation_of o r

-- THE GENERATION STEP
unfoldable pub generation : Operators → Request → Generation
generation o r = by_pool (ltb r.count 2) o r

-- candidates as they lie in a lent slice: candidate after candidate, a word a setting
unfoldable pub words_of : List (List ParamValue) → List ℕ
words_of cs = flatten (map (map to_word) cs)

-- and read back: setting d of candidate i, of n settings each; its kind is its dimension's
abbrev pub stored_at : (ℕ → Distribution) → ℕ → List ℕ → ℕ → ℕ → ParamValue
stored_at dims n words i d = of_word (kind_of_dimension (dims d)) (get_or words (i * n + d) 0)

-- every setting of so many candidates that lie so in words is of its dimension's kind and within its bounds
abbrev pub WordsWithin : (ℕ → Distribution) → ℕ → ℕ → List ℕ → Type 0
WordsWithin dims n count words = (i d : ℕ) → i < count → d < n → in_bounds (dims d) (stored_at dims n words i d) ≡ true
