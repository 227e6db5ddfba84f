-- What is read of a load that is asked for, in model's words.
use Rattle.std.specs.Prelude.{ℕ, List, get_or, Option, Some, None}
use Rattle.model.specs.Load.{Load}
use Rattle.load_numbers.specs.declared.Load.{Load as Numbers}

-- the seven numbers
abbrev pub load_from : Numbers → Load
load_from l = record {
  objectives = l.objectives;
  divisions = l.divisions;
  size = l.size;
  count = l.count;
  constraints = l.constraints;
  seed = l.seed;
  skip = l.skip;
}

abbrev pub asked : Option Numbers → Option Load
asked (Some l) = Some (load_from l)
asked None = None

-- the load that seven numbers form
abbrev pub load_in : List ℕ → Load
load_in l = record {
  objectives = get_or l 0 0;
  divisions = get_or l 1 0;
  size = get_or l 2 0;
  count = get_or l 3 0;
  constraints = get_or l 4 0;
  seed = get_or l 5 0;
  skip = get_or l 6 0;
}
