-- Every run of niching meets what demand 3 asks of the plans picked.
use Prim.Native.Nat.{ℕ}
use mathlib.Core.List.{List}
use Rattle.niching_laws.specs.Niching.{Run, Niched, Split}
use Rattle.niching_laws.proofs.Run.{run_fills, run_balance}
use Rattle.niching_laws.proofs.Least.{balanced-least}

pub run_niched : {before front : List ℕ} {line : ℕ → ℕ} {lines n : ℕ} {picked : List ℕ} → Split before front line lines → Run before front line n picked → Niched before front line lines n picked
run_niched {before} {front} {line} {lines} {n} {picked} split r =
    record {
      fills = run_fills r;
      apart = λ p m. split.apart p ((run_fills r).members p m);
      balance = run_balance r;
      least = balanced-least before front line lines n split.inside picked (run_balance r) (run_fills r);
    }
