-- A text that is handed out where there is room for it, and not otherwise.
use Prim.Native.Nat.{ℕ, ◌+◌, ◌≤◌, ◌<◌}
use mathlib.Core.Path.{◌≡◌, ap, ap₂, sym, ◌∙◌}
use mathlib.Core.List.{List}
use native.Mathlib.Omega.{arith}
use borrow.Author.Tests.{lt-ltb, le-ltb}
use lib.ListN.{length, take}
use Rattle.std.specs.Prelude.{Ok, Err}
use Rattle.model.specs.declared.Refusal.TheVariants as why
use Rattle.model.specs.Lists.{over}
use Rattle.list_laws.proofs.Built.{over-take}
use Rattle.list_laws.specs.Put.{Put}
use Rattle.pool_laws.specs.Choice.{exit, text_exit}
use Rattle.list_laws.proofs.Stores.{put_as, put-over}

module _ (text out : List ℕ) (n : ℕ) (e : n ≡ length text) where
  pub no_room : length out < n → exit (Err why.Room) out ≡ text_exit text out
  no_room h = sym (rw (lt-ltb (length out) (length text) (omega arith)))

  module _ (h : n ≤ length out) (old buffer : List ℕ) (a : buffer ≡ over text old) where
    -- the text as it stands in the buffer
    taken : take n buffer ≡ text
    taken = ap (take n) a ∙ over-take text old n (sym e)

    pub room : 0 + length (take n buffer) ≤ length out
    room = omega (arith, ap length taken)

    pub handed : (after : List ℕ) (r : ℕ) → Put out 0 (take n buffer) after r → exit (Ok n) after ≡ text_exit text out
    handed after r p =
        ap₂ (λ k o. exit (Ok k) o) e (put-over out after r text (omega arith) (put_as out after 0 r (take n buffer) text taken p))
        ∙ sym (rw (le-ltb (length out) (length text) (omega arith)))
