-- THE POOL OF A FILE IS READ BY ITS EDITION: what the second edition's form is read into, its numbers and settings passed over, is what its reader of plans reads.
use Prim.Native.Nat.{ℕ, ◌<◌}
use mathlib.Core.Path.{◌≡◌, refl, sym, ap, ◌∙◌}
use mathlib.Core.Bool.{true, false}
use mathlib.Core.List.{List, [], ◌∷◌, map}
use native.Mathlib.Omega.{arith}
use Rattle.std.specs.Prelude.{Option, None, Some}
use lib.Dec.{eqb, leb}
use lib.ListN.{length, get_or, drop}
use Rattle.model.specs.PoolFile.{Parsed, File, Numbered, pure, onward, number, many, measured, numbered, file_by, pool_file, parse_by, parse, wholly, if_none_left, max_file, opens_second, second_file, is_passed_over, pool_of}
use Rattle.list_laws.proofs.Bools.{by_bool, by_option}
use Rattle.pool_number.proofs.Options.{many-map}
use Rattle.pool_editions.specs.Editions.{plan_second, plan_in}
use Rattle.pool_file.specs.Parsing.{file_in, parse_in}

-- ---- the edition by the first byte

pub opens_none : (bytes : List ℕ) → length bytes ≡ 0 → false ≡ opens_second bytes
opens_none [] h = refl
opens_none (b ∷ bytes) h = absurd (omega arith)

pub opens_first : (bytes : List ℕ) → 0 < length bytes → eqb (get_or bytes 0 0) 64 ≡ opens_second bytes
opens_first [] h = absurd (omega arith)
opens_first (b ∷ bytes) h = refl

-- ---- what is passed over

plans-over : (m n : ℕ) (bytes : List ℕ) → many n (plan_second m) bytes ≡ onward (many n (numbered m) bytes) (λ ps. pure (map (λ p. measured m p.rows) ps))
unfolding plan_second
plans-over m n bytes = many-map (numbered m) (λ p. measured m p.rows) n bytes

pub file_over : (bytes : List ℕ) → file_by (plan_in true) bytes ≡ onward (file_by numbered bytes) (λ f. pure (is_passed_over f))
unfolding file_by
file_over bytes = by_option (number bytes)
    (λ n. rw n)
    (λ a u. by_option (number a.rest)
    (λ n. rw (u, n))
    (λ b v. by_option (number b.rest)
    (λ n. rw (u, v, n))
    (λ c w. by_option (number c.rest)
    (λ n. rw (u, v, w, n))
    (λ d x. by_option (number d.rest)
    (λ n. rw (u, v, w, x, n))
    (λ e y. by_option (many a.value number e.rest)
    (λ n. rw (u, v, w, x, y, n))
    (λ k z. by_option (many d.value (numbered a.value) k.rest)
    (λ n. rw (u, v, w, x, y, z, plans-over a.value d.value k.rest, n))
    (λ l o. rw (u, v, w, x, y, z, plans-over a.value d.value k.rest, o))))))))

-- ---- by the edition

pool-left : (rest : List ℕ) (f : File Numbered) → pool_of (if_none_left rest f) ≡ if_none_left rest (is_passed_over f)
pool-left [] f = refl
pool-left (b ∷ rest) f = refl

pool-read : (o : Option (Parsed (File Numbered))) → pool_of (wholly o) ≡ wholly (onward o (λ f. pure (is_passed_over f)))
pool-read None = refl
pool-read (Some p) = pool-left p.rest p.value

second_in : (bytes : List ℕ) → pool_of (parse_by second_file bytes) ≡ parse_in true bytes
unfolding parse_by second_file file_in
second_in bytes = by_bool (leb (length bytes) max_file)
    (λ e. rw e (pool-read (file_by numbered (drop 1 bytes)) ∙ ap wholly (sym (file_over (drop 1 bytes)))))
    (λ e. rw e)

first_in : (bytes : List ℕ) → parse_by pool_file bytes ≡ parse_in false bytes
unfolding parse_by pool_file file_by file_in
first_in bytes = refl

pub parse_in_lem : (bytes : List ℕ) → parse bytes ≡ parse_in (opens_second bytes) bytes
unfolding parse
parse_in_lem bytes = by_bool (opens_second bytes)
    (λ e. rw e (second_in bytes))
    (λ e. rw e (first_in bytes))
