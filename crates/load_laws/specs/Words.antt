-- Seven numbers of which each is below 2^64, as those are that are read.
use Rattle.model.specs.Load.{Load}
use Rattle.form_laws.specs.Writable.{Word}

pub record LoadWords (l : Load) : Type 0 where
  pub objectives : Word l.objectives
  pub divisions : Word l.divisions
  pub size : Word l.size
  pub count : Word l.count
  pub constraints : Word l.constraints
  pub seed : Word l.seed
  pub skip : Word l.skip
