-- Where each field of a session stands among its words: behind the one before it, by the width of that. Directions and ideal have a word for each objective
-- that there may be, every other field has one; the dimensions come last.
use Rattle.std.specs.Prelude.{ℕ, ◌+◌}
use Rattle.model.specs.Plan.{max_objectives}

abbrev pub objectives : ℕ
objectives = 0

abbrev pub directions : ℕ
directions = objectives + 1

abbrev pub divisions : ℕ
divisions = directions + max_objectives

abbrev pub size : ℕ
size = divisions + 1

abbrev pub crossover_prob : ℕ
crossover_prob = size + 1

abbrev pub crossover_eta_of : ℕ
crossover_eta_of = crossover_prob + 1

abbrev pub mutation_eta_of : ℕ
mutation_eta_of = crossover_eta_of + 1

abbrev pub edition : ℕ
edition = mutation_eta_of + 1

-- whether there is a window, and its generations
abbrev pub has_window : ℕ
has_window = edition + 1

abbrev pub window : ℕ
window = has_window + 1

abbrev pub phase : ℕ
phase = window + 1

-- whether there is a first plan, and its number
abbrev pub has_first : ℕ
has_first = phase + 1

abbrev pub first : ℕ
first = has_first + 1

abbrev pub rng : ℕ
rng = first + 1

-- the counts of dimensions, candidates, plans, waiting plans and generations remembered, and the generation
abbrev pub dims : ℕ
dims = rng + 1

abbrev pub candidates : ℕ
candidates = dims + 1

abbrev pub plans : ℕ
plans = candidates + 1

abbrev pub waiting : ℕ
waiting = plans + 1

abbrev pub remembered : ℕ
remembered = waiting + 1

abbrev pub generation : ℕ
generation = remembered + 1

abbrev pub ideal : ℕ
ideal = generation + 1

abbrev pub dimensions : ℕ
dimensions = ideal + max_objectives
