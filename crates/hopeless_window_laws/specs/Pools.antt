-- Document 02, M-112, of sessions: "Then two accepted pools that differ only in the rows of infeasible plans, with equal directions, lines, generator state, starting
-- ideal and size, and a feasible split front, yield the same kept list, rules and draws. With a window, its remembered ideals must be equal too."
use Rattle.std.specs.Prelude.{ℕ, ◌<◌, ◌≡◌, true, List, take, Some}
use Rattle.model.specs.declared.Edition.TheVariants.{Second}
use Rattle.model.specs.Lists.{In}
use Rattle.model.specs.Association.{Request, feasible_plan}
use Rattle.model.specs.Kept.{is_split, split_front, selected}
use Rattle.model.specs.Session.{State, memory_in, request_of}

-- what two sessions remember: as many generations, and the same own parts of the ideal
pub record SameMemory (st su : State) : Type 0 where
  pub count : su.session.progress.n_remembered ≡ st.session.progress.n_remembered
  pub words : memory_in su.session su.pool ≡ memory_in st.session st.pool

-- the premises: two sessions of edition 2 with a window of w generations, each with the history of a call. Their starting ideals are not asked to be equal: they are
-- the least of what is remembered (`start_is`, proofs/Pools.antt).
pub record HopelessPools (w : ℕ) (st su : State) (history other : List ℕ) : Type 0 where
  pub edition : st.session.config.edition ≡ Second
  pub window : st.session.config.window ≡ Some w
  -- "with equal directions, lines, .. and size": all that was settled at opening
  pub config : su.session.config ≡ st.session.config
  pub generator : su.session.rng.s ≡ st.session.rng.s
  -- "its remembered ideals must be equal too"
  pub remembered : SameMemory st su
  -- "two .. pools that differ only in the rows of infeasible plans"
  pub count : (request_of su other).count ≡ (request_of st history).count
  pub constraints : (p : ℕ) → p < (request_of st history).count → ((request_of su other).plans p).constraints ≡ ((request_of st history).plans p).constraints
  pub rows : (p : ℕ) → p < (request_of st history).count → feasible_plan (request_of st history) p ≡ true → ((request_of su other).plans p).row ≡ ((request_of st history).plans p).row
  -- "and a feasible split front"
  pub split : is_split (request_of st history) ≡ true
  pub feasible : (p : ℕ) → In p (split_front (request_of st history)) → feasible_plan (request_of st history) p ≡ true

-- what follows: the same selection (kept list, rules, lines, ideal and the generator's state after its draws), and in the states that both calls leave, x and y, the
-- same ideal and the same memory
pub record SameLeft (st su : State) (history other : List ℕ) (x y : State) : Type 0 where
  pub selection : selected (request_of su other) ≡ selected (request_of st history)
  pub ideal : take y.session.config.n_obj y.session.ideal_point ≡ take x.session.config.n_obj x.session.ideal_point
  pub remembered : SameMemory x y
