-- `write_refused`: the word and the number.
use Prim.Native.Nat.{ℕ, ◌+◌, ◌≤◌}
use mathlib.Core.Path.{ap, sym, ◌∙◌}
use mathlib.Core.List.{List, ◌++◌}
use native.Mathlib.Nat.{zero-add}
use native.Mathlib.Omega.{arith}
use lib.ListN.{length}
use Rattle.model.specs.PoolFile.{decimal, refused_text}
use Rattle.pool_laws.specs.Text.{refused_word, ended}
use Rattle.list_laws.proofs.Stores.{put_then, put_as, put-over}
use Rattle.pool_laws.proofs.Puts.{room-first, room-rest}
use Rattle.pool_laws.proofs.Listing.{refused-text}
use Rattle.pool_text.proofs.write_refused.Goals as goal

whole : (n : ℕ) (o : List ℕ) → length (refused_text n) ≤ length o
    → 0 + length (refused_word ++ ended (decimal n) 10) ≤ length o
whole n o h = omega (arith, ap length (refused-text n))

pub put_bytes-at-requires : goal.put_bytes-at-requires
put_bytes-at-requires c =
    room-first 0 (length c.args.out.now) refused_word (ended (decimal c.args.n) 10) (whole c.args.n c.args.out.now c.requires)

pub put_number-requires : goal.put_number-requires
put_number-requires c =
    room-rest c.args.out.now _ 0 _ refused_word (ended (decimal c.args.n) 10) (whole c.args.n c.args.out.now c.requires) c.put_bytes-at.ensures

pub returns : goal.returns
returns c =
    let p = put_as _ _ _ _ _ _ (sym (refused-text c.args.n)) (put_then _ _ _ _ _ _ _ _ c.put_bytes-at.ensures c.put_number.ensures) in
    record { count = p.ends ∙ zero-add _; text = put-over _ _ _ _ c.requires p }
