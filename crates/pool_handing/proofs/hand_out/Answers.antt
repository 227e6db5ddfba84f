-- there is room for the text, or there is not
use Prim.Native.Nat.{ℕ, ◌≤◌}
use mathlib.Core.Path.{◌≡◌, refl, ap, sym, ◌∙◌}
use mathlib.Core.List.{List}
use borrow.Author.Tests.{le-ltb}
use lib.ListN.{length}
use Rattle.std.specs.Prelude.{Ok}
use Rattle.list_laws.specs.Put.{Put}
use Rattle.list_laws.proofs.Stores.{put-over}
use Rattle.pool_laws.specs.Choice.{exit, text_exit}
use Rattle.pool_laws.proofs.Texts.{no_room}
use Rattle.pool_handing.proofs.hand_out.Goals as goal

handed : (text out : List ℕ) → length text ≤ length out → (after : List ℕ) (r : ℕ) → Put out 0 text after r
    → exit (Ok (length text)) after ≡ text_exit text out
handed text out h after r p =
    ap (exit (Ok (length text))) (put-over out after r text h p) ∙ sym (rw (le-ltb (length out) (length text) h))

pub returns-then-out-n : goal.returns-then-out-n
returns-then-out-n c = no_room c.args.text.now c.args.out.now _ refl c.if-out-n.true

pub returns : goal.returns
returns c = handed _ _ c.if-out-n.false _ _ c.put_bytes.ensures
