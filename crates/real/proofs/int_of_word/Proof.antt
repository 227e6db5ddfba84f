-- Half the word, or -1 less it.
use Rattle.std.proofs.Common.{◌≡◌, ℕ, ◌/◌, ◌^◌, ◌<◌, pos, negsuc, sym, ◌∙◌, arith, w64, SFits, to_z, rules}
use mir.ValLaws.{to_z_pos, to_z-of_z}
use Rattle.real_laws.proofs.Ints.{other, int_of_word_even, int_of_word_odd}
use Rattle.real.proofs.int_of_word.Statement.{statement}
use Rattle.real.proofs.int_of_word.Tie as tie

cast-half : tie.Need-overflow_cast-half
cast-half c = search rules

module _ (c : tie.Start) where
  abbrev half : ℕ
  half = c.args.w / 2

  small : half < 2 ^ 63
  small = omega arith

  read : to_z w64 half ≡ pos half
  read = to_z_pos w64 half small

  fits : SFits w64 (negsuc half)
  fits = record { sfits = small }

sub-result : tie.Need-overflow_sub-result
sub-result c = let s = c.before in rw (read s, other (half s)) (fits s)

returns : tie.Need-returns-then-w-eq0
returns c = read c.before ∙ sym (int_of_word_even c.args.w c.if-w-eq0.true)

returns-2 : tie.Need-returns-else-w-eq0
returns-2 c = let s = c.before in rw (read s, other (half s), to_z-of_z w64 (negsuc (half s)) (fits s)) (sym (int_of_word_odd s.args.w c.if-w-eq0.false))

pub int_of_word_spec : {M : Type 1} → statement M
int_of_word_spec = tie.close (tie.spec cast-half sub-result returns returns-2)
