-- A run of a session, as its callers see it (document 02, M-109): an opening, the calls after it, and the pools that they bred from.
use Rattle.std.specs.Prelude.{ℕ, ◌≡◌, cond, List, [], ◌∷◌, ◌++◌, Float, Option, None, Some, Ok}
use Rattle.model.specs.declared.Refusal.{Refusal}
use Rattle.model.specs.declared.Distribution.{Distribution}
use Rattle.model.specs.declared.Edition.{Edition}
use Rattle.model.specs.declared.Opened.{Opened}
use Rattle.model.specs.Association.{Request, value_of, shapers, least_from}
use Rattle.model.specs.Session.{State, state, breeds, request_of}
use Rattle.model.specs.Refusal.{sample_refusal}
use Rattle.model.specs.Calls.{Opens, SampleExit, Samples}

-- "the least worked out from those pools, with the rows each pool held when bred from": at objective j, the smaller of b and of the values of the plans that shape
-- the scale of each pool, one pool after the other
unfoldable pub least_over : Float → List Request → ℕ → Float
least_over b [] j = b
least_over b (r ∷ rs) j = least_over (least_from b (λ p. value_of r p j) (shapers r)) rs j

-- the pool that a call breeds from, or none where it is refused or does not breed
abbrev pub pool_by : Option Refusal → State → List ℕ → List Request
pool_by None st history = cond (breeds st history) (request_of st history ∷ []) []
pool_by (Some n) st history = []

abbrev pub pool_of : State → Distribution → ℕ → List ℕ → List Request
pool_of st d plan history = pool_by (sample_refusal st d plan history) st history

-- A RUN of a session that `open` answered with a window of w generations, whatever slices are lent with it: calls of `sample`, each on what the one before it left.
-- Each keeps its promise. `pools` are the pools bred from, the first first, and `st` is what the last call leaves.
pub data Run (w : ℕ) : List Request → State → Type 0 where
  begun : {edition : Edition} {directions : List ℕ} {seed : ℕ} {size divisions : Option ℕ} {probability crossover_eta_of mutation_eta_of : Float} {r : Opened}
      → Opens edition directions seed size divisions probability crossover_eta_of mutation_eta_of (Some w) r → r.outcome ≡ (Ok tt)
      → (candidates plans next_dims pool : List ℕ) → Run w [] (state r.session candidates plans next_dims pool)
  called : {pools : List Request} {st : State} {d : Distribution} {plan : ℕ} {history : List ℕ} {exit : SampleExit} → Run w pools st → Samples st d plan history exit
      → Run w (pools ++ pool_of st d plan history) exit.after
