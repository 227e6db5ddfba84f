use Rattle.std.proofs.Common.{arith, refl, sym, ap, ◌∙◌, ℕ, List}
use lib.Seq.{take_all}
use Rattle.model.specs.PoolFile.{place_of}
use Rattle.pool_laws.proofs.Places.{place_nil, marked_more}
use Rattle.pool_places.proofs.mark_places.Goals as goal

pub loop-i-init : goal.loop-i-init
loop-i-init c = λ p h. c.requires p h ∙ sym (place_nil p)

pub loop-i-preserved : goal.loop-i-preserved
loop-i-preserved c =
    let l = c.loop-i in
    marked_more _ l.places _ l.i _ _ (sym l.auto.places) (omega arith) refl c.mark_place.ensures l.invariant

pub returns : goal.returns
returns c = λ p h.
    let l = c.loop-i in
    l.invariant p h ∙ ap (λ (t : List ℕ). place_of t p) (take_all l.i c.args.kept.now (omega arith))
