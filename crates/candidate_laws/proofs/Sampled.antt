-- Drawn candidates lie within their bounds.
use Prim.Native.Nat.{ℕ}
use mathlib.Core.Path.{◌≡◌}
use mathlib.Core.Bool.{true, false}
use mathlib.Core.List.{[]}
use Rattle.model.specs.declared.Distribution.{Distribution}
use Rattle.model.specs.declared.Distribution.TheVariants as dist
use Rattle.list_laws.proofs.Draws.{places-drawn}
use Rattle.model.specs.Setting.{no_value, valid_dimension, sample_random, sample_all, sample_candidates}
use Rattle.model.specs.Refusal.{bad_dimensions}
use Rattle.settings.proofs.Valid.{each}
use Rattle.settings.proofs.InBounds.{Held, float_fits, sampled_in_bounds}
use Rattle.variation_laws.proofs.Children.{HeldValue, Fit}
use Rattle.candidate_laws.specs.Bounds.{Within}
use Rattle.candidate_laws.proofs.Sound.{AllHeld, Sound, sound-within, AllSound}

-- a drawn setting fits its dimension; a drawn double is a double
pub sampled_fit : (d : Distribution) (s : ℕ) → Held d → valid_dimension d ≡ true → Fit d (sample_random d s).value
sampled_fit d s h v = (sampled_in_bounds d s h v, held d h)
  where
    held : (d : Distribution) → Held d → HeldValue (sample_random d s).value
    held (dist.Float d) h = unfold sample_random in float_fits d.low d.high d.step s h.0 h.1
    held (dist.Int d) h = unfold sample_random in tt
    held (dist.Categorical d) h = unfold sample_random in tt

module _ (dims : ℕ → Distribution) (n : ℕ) (h : AllHeld dims n) (b : bad_dimensions dims n ≡ false) where
  -- a candidate
  pub sample_all-sound : (s : ℕ) → Sound dims n (sample_all dims n s).value
  sample_all-sound s = places-drawn _ (λ d v. Fit (dims d) v) no_value n s (λ i l t u. sampled_fit (dims i) t (h i u) (each dims n b i u))

  pub sample_all-within : (s : ℕ) → Within dims n (sample_all dims n s).value
  sample_all-within s = sound-within dims n _ (sample_all-sound s)

  -- so many
  pub sample_candidates-sound : (k s : ℕ) → AllSound dims n k (sample_candidates dims n k s).value
  sample_candidates-sound k s = places-drawn _ (λ i c. Sound dims n c) [] k s (λ i cs t u. sample_all-sound t)
