use Rattle.std.proofs.Common.{ℕ, ◌≡◌, ◌+◌, Bool, false, cond, List, [], sym, ap, subst, ◌∙◌, arith}
use Rattle.std.proofs.lemmas.List.Edits.{sets}
use Rattle.model.specs.Plan.{plan_words}
use Rattle.model.specs.Session.{record_of, block_of}
use Rattle.session_pool_laws.proofs.Blocks.{block-length}
use Rattle.session_records.specs.Gathered.{Put}
use Rattle.session_records.proofs.put_child.Goals as goal

put_one : (b : Bool) (history : List ℕ) (k plan at : ℕ) (to exit : List ℕ) → false ≡ b → k ≡ record_of history plan → exit ≡ sets to at (block_of history k)
    → Put (cond b [] (block_of history (record_of history plan))) at to exit (at + plan_words)
put_one b history k plan at to exit e f g =
    subst (λ (x : Bool). Put (cond x [] (block_of history (record_of history plan))) at to exit (at + plan_words)) e
    (record { put = g ∙ ap (λ (n : ℕ). sets to at (block_of history n)) f; behind = omega (arith, block-length history (record_of history plan)) })

pub returns : goal.returns
returns c =
    let a = c.args in
    put_one _ a.history.now _ a.plan a.at a.to.now _ (sym c.if-waits.false ∙ c.waits.ensures) c.record_of-k.ensures c.put_plan.ensures
