-- Where the fronts part: which of them fit whole into a size, and which one is split, told from the places where they end.
use Rattle.std.specs.Prelude.{ℕ, zero, suc, cond, ◌&&◌, List, ltb, get_or}
use Rattle.model.specs.Lists.{first_below}
use Rattle.front_cut.specs.declared.Cut.{Cut}

-- how many of x fronts fit whole
unfoldable pub fitting : List ℕ → ℕ → ℕ → ℕ
fitting ends x size = first_below (λ k. ltb size (get_or ends k 0)) x

-- front k starts where the front before it ends
abbrev pub start_of : List ℕ → ℕ → ℕ
start_of ends zero = 0
start_of ends (suc k) = get_or ends k 0

-- the cut after k fronts: the next one is split where there is one and they fall short of the size
abbrev pub cut_after : List ℕ → ℕ → ℕ → ℕ → Cut
cut_after ends x size k =
    let whole = start_of ends k in
    let split = ltb k x && ltb whole size in
    record { whole = whole; end = cond split (get_or ends k 0) whole; split = split }

unfoldable pub cut_of : List ℕ → ℕ → ℕ → Cut
cut_of ends x size = cut_after ends x size (fitting ends x size)
