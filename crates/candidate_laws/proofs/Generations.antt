-- "offspring within their bounds": every candidate of a generation step is whole and within its bounds, and so are its words.
use Prim.Native.Nat.{ℕ, zero, suc, ◌<◌}
use mathlib.Core.Path.{◌≡◌, refl}
use mathlib.Core.Bool.{true, false}
use mathlib.Core.List.{List, []}
use native.Mathlib.Omega.{arith}
use borrow.Author.Tests.{ltb-false, not-false}
use lib.Dec.{ltb}
use lib.ListN.{length}
use Rattle.list_laws.proofs.Bools.{by_bool}
use Rattle.list_laws.proofs.Tests.{all_below-each}
use Rattle.list_laws.proofs.Places.{places_none}
use Rattle.model.specs.Lists.{all_below, over}
use Rattle.model.specs.Edition.{moves_to_step}
use Rattle.model.specs.Association.{Request}
use Rattle.model.specs.Kept.{selected}
use Rattle.model.specs.Setting.{parents_of, Operators, offspring_of, rank_of, bred_of, born_of, generation_of, generation_of_one, generation, words_of, WordsWithin}
use Rattle.model.specs.Refusal.{bad_dimensions, breedable, bad_parents}
use Rattle.candidate_laws.specs.Bounds.{AllWithin}
use Rattle.candidate_laws.proofs.Sound.{AllHeld, AllSound, all-within}
use Rattle.candidate_laws.proofs.Sampled.{sample_candidates-sound}
use Rattle.candidate_laws.proofs.Extracted.{parents_of-sound}
use Rattle.candidate_laws.proofs.Bred.{offspring_of-sound}
use Rattle.candidate_laws.proofs.Words.{words-within}
use Rattle.candidate_laws.proofs.Moved.{moved-sound}
use Rattle.candidate_laws.proofs.KeptPlans.{kept-length, kept-below}

-- where refusal 9 does not apply, every plan of the pool may be bred from
module _ (o : Operators) (r : Request) (g : bad_parents o r ≡ false) where
  pub plans-breedable : all_below (λ p. breedable o.dims o.dim_count (r.plans p)) r.count ≡ true
  unfolding bad_parents
  plans-breedable = not-false _ g

  plan-breedable : (p : ℕ) → p < r.count → breedable o.dims o.dim_count (r.plans p) ≡ true
  plan-breedable = all_below-each (λ p. breedable o.dims o.dim_count (r.plans p)) r.count plans-breedable

module _ (o : Operators) (r : Request) (h : AllHeld o.dims o.dim_count) (b : bad_dimensions o.dims o.dim_count ≡ false) (g : bad_parents o r ≡ false) where
  -- the parents
  kept-sound : 0 < r.count → (s : ℕ) → AllSound o.dims o.dim_count (length (selected r).kept) (parents_of o.dims o.dim_count r.plans (selected r).kept s).value
  kept-sound some s = parents_of-sound o.dims o.dim_count h b r.plans (selected r).kept s (λ i l. plan-breedable o r g _ (kept-below r some i l))

  -- a size of none has no offspring; any other has parents
  bred : (size : ℕ) → r.size ≡ size → 0 < r.count → AllSound o.dims o.dim_count size
      (bred_of o r.plans (rank_of r (selected r).kept) (selected r).kept size (selected r).state).value
  unfolding offspring_of
  bred zero e some = places_none _ []
  bred (suc size) e some =
      let l = kept-length r in
      offspring_of-sound o h b _ (rank_of r (selected r).kept) (length (selected r).kept) (omega arith) (kept-sound some (selected r).state) (suc size) _

  generation_of-sound : 0 < r.count → AllSound o.dims o.dim_count r.size (generation_of o r).offspring
  unfolding generation_of born_of
  generation_of-sound some = moved-sound o.dims o.dim_count h b (moves_to_step r.edition) r.size _ (bred r.size refl some)

  generation_of_one-sound : AllSound o.dims o.dim_count r.size (generation_of_one o r).offspring
  unfolding generation_of_one
  generation_of_one-sound = sample_candidates-sound o.dims o.dim_count h b r.size r.state

  -- THE THEOREM
  pub generation-sound : AllSound o.dims o.dim_count r.size (generation o r).offspring
  unfolding generation
  generation-sound = by_bool (ltb r.count 2)
      (λ e. rw e generation_of_one-sound)
      (λ e. rw e (generation_of-sound (let l = ltb-false r.count 2 e in omega arith)))

  pub generation-within : AllWithin o.dims o.dim_count r.size (generation o r).offspring
  generation-within = all-within o.dims o.dim_count r.size _ generation-sound

  pub generation-words : (old : List ℕ) → WordsWithin o.dims o.dim_count r.size (over (words_of (generation o r).offspring) old)
  generation-words old = words-within o.dims o.dim_count r.size (generation o r).offspring generation-sound _
