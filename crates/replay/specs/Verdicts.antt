-- What a verdict promises, and what it adds to a tally.
use Rattle.std.specs.Prelude.{◌≡◌, ℕ, ◌+◌, ◌%◌, ◌^◌, ◌<◌, Bool, true, false, List, slice_index}
use Rattle.replay.specs.declared.Tally.{Tally}
use Rattle.replay.specs.declared.Verdict.{Verdict}
use Rattle.replay.specs.declared.Verdict.TheVariants.{Agrees, Differs, PassedOver, Broken}

-- two lines begin with the same n numbers
abbrev pub Same : ℕ → List ℕ → List ℕ → Type 0
Same n a b = (k : ℕ) → k < n → slice_index a k ≡ slice_index b k

-- an answer to that question is right
abbrev pub SameFirst : ℕ → List ℕ → List ℕ → Bool → Type 0
SameFirst n a b true = Same n a b
SameFirst n a b false = Same n a b → ⊥

-- the n numbers given are the k worked out
abbrev pub Alike : ℕ → List ℕ → ℕ → List ℕ → Type 0
Alike n given k ours = (n ≡ k) × Same k given ours

-- only an answer that is the stored one agrees, and only another one differs
abbrev pub Compares : ℕ → List ℕ → ℕ → List ℕ → Verdict → Type 0
Compares n given k ours Agrees = Alike n given k ours
Compares n given k ours Differs = Alike n given k ours → ⊥
Compares n given k ours PassedOver = k ≡ 0
Compares n given k ours Broken = ⊥

-- two lines that are whole are compared; where one is not, the case is broken
abbrev pub Judges : Bool → ℕ → List ℕ → ℕ → List ℕ → Verdict → Type 0
Judges true n given k ours v = Compares n given k ours v
Judges false n given k ours v = v ≡ Broken

abbrev pub up : ℕ → ℕ
up n = (n + 1) % 2 ^ 64

-- each verdict counts once, under its name
abbrev pub tallied : Verdict → Tally → Tally
tallied Agrees t = record { agree = up t.agree; differ = t.differ; passed_over = t.passed_over; broken = t.broken }
tallied Differs t = record { agree = t.agree; differ = up t.differ; passed_over = t.passed_over; broken = t.broken }
tallied PassedOver t = record { agree = t.agree; differ = t.differ; passed_over = up t.passed_over; broken = t.broken }
tallied Broken t = record { agree = t.agree; differ = t.differ; passed_over = t.passed_over; broken = up t.broken }
