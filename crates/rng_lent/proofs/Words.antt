-- A state's word, and what holds of every draw of a word: word and state are words.
use Rattle.std.proofs.Common.{◌≡◌, ℕ, ◌/◌, ◌^◌, ◌<◌, sym, ap, ◌∙◌, arith}
use lib.Bits.{bit_xor}
use Rattle.model.specs.Draw.{drawn, step, word_of, draw_word}
use Rattle.list_laws.proofs.Draws.{drawn-value, drawn-state}
use Rattle.rng_lent.proofs.Xor.{xor_low_is, xor_low-below}

-- the code's `^` is the definition's exclusive or
pub is_word : (t : ℕ) → t < 2 ^ 64 → bit_xor t (t / 2 ^ 32) ≡ word_of t
unfolding word_of
is_word t h = sym (xor_low_is 64 t (t / 2 ^ 32) h (omega arith))

-- the state's step, and the word of the state reached
pub is_drawn : (s t w : ℕ) → t ≡ step s → w ≡ word_of t → drawn w t ≡ draw_word s
unfolding draw_word
is_drawn s t w e f = ap (λ (v : ℕ). drawn v t) f ∙ ap (λ (u : ℕ). drawn (word_of u) u) e

pub step-below : (s : ℕ) → step s < 2 ^ 64
unfolding step
step-below s = omega arith

pub word_below : (s : ℕ) → word_of s < 2 ^ 64
unfolding word_of
word_below s = xor_low-below 64 s (s / 2 ^ 32)

-- what a draw of a word hands out, and the state after it
pub drawn-word : (s w t : ℕ) → drawn w t ≡ draw_word s → (w < 2 ^ 64) × (t < 2 ^ 64)
unfolding draw_word
drawn-word s w t e = (omega (arith, drawn-value e, word_below (step s)), omega (arith, drawn-state e, step-below s))
