-- A pool file in good form that meets no refusal: every normalised value lies within 0..1, and its association and niching are the paper's.
use Prim.Native.Nat.{ℕ, ◌<◌}
use mathlib.Core.Path.{◌≡◌, sym, subst}
use mathlib.Core.Bool.{false}
use mathlib.Core.List.{List}
use Rattle.std.specs.Prelude.{None, Some}
use native.Mathlib.Omega.{arith}
use lib.Dec.{T}
use lib.Ieee.{nan, binary64, fits}
use lib.Ieee.Fits.{inf-fits}
use lib.ListN.{length, get_or, replicate, get_or-replicate}
use Rattle.model.specs.Real.{infinity}
use Rattle.model.specs.PoolFile.{PoolFile, parse, file_request}
use Rattle.model.specs.Refusal.{select_refusal, choose_refusal}
use Rattle.association_laws.specs.Measurable.{Measurable}
use Rattle.association_laws.proofs.Good.{measured}
use Rattle.demand3_laws.specs.Paper.{Scaled, ByPaper}
use Rattle.demand3_laws.proofs.Paper.{scaled, by-paper}
use Rattle.pool_laws.specs.Choice.{roomy}
use Rattle.pool_laws.proofs.Shapes.{Whole, parse-whole}
use Rattle.pool_laws.proofs.Refusals.{file_selects}
use Rattle.pool_laws.proofs.Demand3.{file_accepted, file_passes}

-- the ideal starts at infinity, which is a double
start-held : (n j : ℕ) → j < n → T (fits binary64 (get_or (replicate n infinity) j nan))
start-held n j h = subst (λ x. T (fits binary64 x)) (sym (get_or-replicate n j infinity nan h)) (inf-fits binary64 false)

module _ (f : PoolFile) (whole : Whole f) (e : select_refusal (file_request f) roomy ≡ None) where
  file_measurable : Measurable (file_request f)
  file_measurable =
      let a = file_accepted f whole e in
      measured (file_request f) a.pool a.rows
      (λ p j h k. (whole.plans p h).values j (omega (arith, a.rows p h)))
      (λ j k. start-held f.objectives j (omega (arith, whole.marks)))

  pub file_scaled : Scaled (file_request f)
  file_scaled = scaled (file_request f) file_measurable

  pub file_by-paper : ByPaper (file_request f)
  file_by-paper = by-paper (file_request f) (file_accepted f whole e) file_measurable

-- ---- `choose`
module _ (bytes : List ℕ) (out : ℕ) (e : choose_refusal bytes out ≡ None) (f : PoolFile) (read : parse bytes ≡ Some f) where
  selects : select_refusal (file_request f) roomy ≡ None
  selects = file_selects f out (file_passes bytes out e f read)

  pub choose_scaled : Scaled (file_request f)
  choose_scaled = file_scaled f (parse-whole bytes f read) selects

  pub choose_by-paper : ByPaper (file_request f)
  choose_by-paper = file_by-paper f (parse-whole bytes f read) selects
