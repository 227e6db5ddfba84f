-- Front numbers written front after front into a list.
use Rattle.std.specs.Prelude.{ℕ, zero, suc, Bool, List, [], ◌∷◌, set}
use Rattle.model.specs.Front.{front}

-- r with k at the place of each member of a list
unfoldable pub mark : List ℕ → ℕ → List ℕ → List ℕ
mark [] k r = r
mark (p ∷ ps) k r = mark ps k (set r p k)

-- r with its front's number at each place that the first k fronts name
unfoldable pub ranked : (ℕ → ℕ → Bool) → ℕ → ℕ → List ℕ → List ℕ
ranked d n zero r = r
ranked d n (suc k) r = mark (front d n k) k (ranked d n k r)
