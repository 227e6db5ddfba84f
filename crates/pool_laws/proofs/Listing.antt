-- The listing as the code puts it together.
use Prim.Native.Nat.{ℕ, ◌+◌, ◌≤◌, ◌<◌}
use mathlib.Core.Path.{◌≡◌, refl, ap, sym, ◌∙◌}
use mathlib.Core.List.{List, ◌++◌, append_assoc}
use native.Mathlib.Omega.{arith}
use lib.ListN.{length, get_or}
use Rattle.model.specs.Lists.{list_below, join_below}
use Rattle.model.specs.Kept.{Selected}
use Rattle.model.specs.PoolFile.{ascii, decimal, header_text, plan_text, place_of, listing_text, refused_text}
use Rattle.list_laws.proofs.Built.{join_below-same}
use Rattle.list_laws.specs.Put.{Put}
use Rattle.pool_laws.specs.Text.{joined, ended, refused_word, headings, listed, fields_text, fields_of}
use Rattle.list_laws.proofs.Stores.{put_as, put_then}
use Rattle.pool_laws.proofs.Puts.{room-first, room-rest}

-- ---- the texts of the header, of a plan's line and of a refusal

pub header-text : (count kept : ℕ) → header_text count kept ≡ joined (headings count kept)
unfolding header_text ascii list_below
header-text count kept = sym (simp append_assoc)

pub plan-text : (sel : Selected) (p : ℕ) → plan_text sel p ≡ fields_text p (get_or sel.fronts p 0) (get_or sel.lines p 0) (place_of sel.kept p)
unfolding plan_text fields_text ascii list_below
plan-text sel p = sym (simp append_assoc)

pub refused-text : (n : ℕ) → refused_text n ≡ refused_word ++ ended (decimal n) 10
unfolding refused_text ascii list_below
refused-text n = refl

-- ---- the lines

pub listing-text : (count : ℕ) (kept fronts lines places : List ℕ) → ((p : ℕ) → p < count → get_or places p 0 ≡ place_of kept p)
    → listing_text count (listed kept fronts lines) ≡ header_text count (length kept) ++ join_below (fields_of fronts lines places) count
unfolding listing_text
listing-text count kept fronts lines places h =
    ap (λ (l : List ℕ). header_text count (length kept) ++ l)
    (join_below-same (plan_text (listed kept fronts lines)) (fields_of fronts lines places) count
    (λ p l. plan-text (listed kept fronts lines) p ∙ ap (fields_text p (get_or fronts p 0) (get_or lines p 0)) (sym (h p l))))

-- ---- the header and then the lines

module _ (count : ℕ) (kept fronts lines places : List ℕ) (right : (p : ℕ) → p < count → get_or places p 0 ≡ place_of kept p) (o₀ : List ℕ)
    (room : length (listing_text count (listed kept fronts lines)) ≤ length o₀) where
  abbrev header : List ℕ
  header = header_text count (length kept)

  abbrev rows : List ℕ
  rows = join_below (fields_of fronts lines places) count

  whole : 0 + length (header ++ rows) ≤ length o₀
  whole = omega (arith, ap length (listing-text count kept fronts lines places right))

  pub header-room : 0 + length header ≤ length o₀
  header-room = room-first 0 (length o₀) header rows whole

  module _ (o₁ : List ℕ) (r₁ : ℕ) (p₁ : Put o₀ 0 header o₁ r₁) where
    pub rows-room : r₁ + length rows ≤ length o₁
    rows-room = room-rest o₀ o₁ 0 r₁ header rows whole p₁

    pub listing-put : (o₂ : List ℕ) (r₂ : ℕ) → Put o₁ r₁ rows o₂ r₂ → Put o₀ 0 (listing_text count (listed kept fronts lines)) o₂ r₂
    listing-put o₂ r₂ p₂ =
        put_as o₀ o₂ 0 r₂ (header ++ rows) _ (sym (listing-text count kept fronts lines places right))
        (put_then o₀ o₁ o₂ 0 r₁ r₂ header rows p₁ p₂)
