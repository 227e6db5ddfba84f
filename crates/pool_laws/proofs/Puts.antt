-- Laws of texts put one after the other.
use Prim.Native.Nat.{ℕ, ◌+◌, ◌≤◌, ◌<◌}
use mathlib.Core.Path.{refl, sym}
use mathlib.Core.List.{List, [], ◌∷◌, ◌++◌}
use native.Mathlib.Omega.{arith}
use lib.ListN.{length, get_or, take, set, length-append}
use Rattle.list_laws.proofs.Built.{take_more}
use Rattle.list_laws.proofs.Stores.{put_then, put-length, put_as}
use Rattle.list_laws.specs.Put.{Put}
use Rattle.pool_laws.specs.Text.{Four, joined}

-- room for a whole text is room for its first part, and then for the rest
pub room-first : (at n : ℕ) (a b : List ℕ) → at + length (a ++ b) ≤ n → at + length a ≤ n
room-first at n a b h = omega (arith, length-append a b)

pub room-rest : (o₀ o₁ : List ℕ) (at r : ℕ) (a b : List ℕ) → at + length (a ++ b) ≤ length o₀ → Put o₀ at a o₁ r → r + length b ≤ length o₁
room-rest o₀ o₁ at r a b h p = omega (arith, length-append a b, p.ends, put-length o₀ o₁ at r a p)

-- a text put byte by byte: one more
pub put-more : (o₀ o₁ text : List ℕ) (at i : ℕ) → i < length text → Put o₀ at (take i text) o₁ (at + i)
    → Put o₀ at (take (i + 1) text) (set o₁ (at + i) (get_or text i 0)) (at + (i + 1))
put-more o₀ o₁ text at i h p =
    put_as o₀ _ at (at + (i + 1)) _ _ (sym (take_more 0 text i h))
    (put_then o₀ o₁ _ at (at + i) (at + (i + 1)) (take i text) (get_or text i 0 ∷ []) p (record { stored = refl; ends = omega arith }))

-- ---- four texts, one after the other

module _ (o₀ : List ℕ) (at : ℕ) (t : Four) (room : at + length (joined t) ≤ length o₀) where
  pub room_1 : at + length t.first ≤ length o₀
  room_1 = room-first at (length o₀) t.first (t.second ++ (t.third ++ t.fourth)) room

  module _ (o₁ : List ℕ) (r₁ : ℕ) (p₁ : Put o₀ at t.first o₁ r₁) where
    left_1 : r₁ + length (t.second ++ (t.third ++ t.fourth)) ≤ length o₁
    left_1 = room-rest o₀ o₁ at r₁ t.first (t.second ++ (t.third ++ t.fourth)) room p₁

    pub room_2 : r₁ + length t.second ≤ length o₁
    room_2 = room-first r₁ (length o₁) t.second (t.third ++ t.fourth) left_1

    module _ (o₂ : List ℕ) (r₂ : ℕ) (p₂ : Put o₁ r₁ t.second o₂ r₂) where
      left_2 : r₂ + length (t.third ++ t.fourth) ≤ length o₂
      left_2 = room-rest o₁ o₂ r₁ r₂ t.second (t.third ++ t.fourth) left_1 p₂

      pub room_3 : r₂ + length t.third ≤ length o₂
      room_3 = room-first r₂ (length o₂) t.third t.fourth left_2

      module _ (o₃ : List ℕ) (r₃ : ℕ) (p₃ : Put o₂ r₂ t.third o₃ r₃) where
        pub room_4 : r₃ + length t.fourth ≤ length o₃
        room_4 = room-rest o₂ o₃ r₂ r₃ t.third t.fourth left_2 p₃

        pub put_four : (o₄ : List ℕ) (r₄ : ℕ) → Put o₃ r₃ t.fourth o₄ r₄ → Put o₀ at (joined t) o₄ r₄
        put_four o₄ r₄ p₄ =
            put_then o₀ o₁ o₄ at r₁ r₄ t.first (t.second ++ (t.third ++ t.fourth)) p₁
            (put_then o₁ o₂ o₄ r₁ r₂ r₄ t.second (t.third ++ t.fourth) p₂ (put_then o₂ o₃ o₄ r₂ r₃ r₄ t.third t.fourth p₃ p₄))
