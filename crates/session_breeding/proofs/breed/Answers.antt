-- the children are gathered, 8 and 9 looked at, and the generation is bred on the pool with the children behind those that wait
use Rattle.std.proofs.Common.{ℕ, ◌+◌, ◌*◌, ◌≤◌, length, take, sym, refl, ap, ◌∙◌, subst, None, Some}
use Rattle.model.specs.declared.Session.{Session}
use Rattle.model.specs.Plan.{plan_words}
use Rattle.model.specs.Session.{state}
use Rattle.model.specs.Refusal.{max_size}
use Rattle.model.specs.Calls.{refused_by}
use Rattle.session_breeding.specs.Breeding.{Poised, bred_on, bred_exit}
use Rattle.session_breeding.proofs.Breeding.{started-by, refused_is, behind-room, front_fits, poised, breed_is, breed-answer}
use Rattle.session_breeding.proofs.breed.Goals as goal

pub put-requires : goal.put-requires
put-requires c =
    let a = c.args in
    let g = c.gather-n in
    behind-room a.session a.history.now a.plans.now a.pool.now c.requires.0 a.room.now g.new.to g.result g.ensures.laid g.ensures.count c.requires.1

pub bred_on-session-requires : goal.bred_on-session-requires
bred_on-session-requires c =
    let a = c.args in
    let g = c.gather-n in
    let u = c.slid-started in
    let j = c.joined_refusal-check in
    let p = c.put in
    let room : max_size * plan_words ≤ length g.new.to = subst (λ (x : ℕ). max_size * plan_words ≤ x) (sym g.auto.to) c.requires.2 in (
      subst (λ (x : Session). Poised x (take (a.session.progress.n_waiting * plan_words + g.result) p.new.words) (length g.new.to) (length p.new.words) (length a.candidates.now))
          (sym u.ensures)
          (poised a.session a.history.now a.plans.now a.pool.now c.requires.0 a.room.now g.new.to g.result g.ensures.laid g.ensures.count c.requires.1
          _ p.ensures j.result _ _ (started-by a.session a.history.now a.plans.now a.pool.now c.requires.0 a.room.now g.new.to g.result g.ensures.laid g.ensures.count j.result _ u.ensures j.ensures) (ap refused_by c.in-Ok.is) room c.requires.3),
      front_fits a.session a.history.now a.plans.now a.pool.now c.requires.0 a.room.now g.new.to g.result g.ensures.laid g.ensures.count c.requires.1 _ p.ensures,
    )

pub returns-in-Err : goal.returns-in-Err
returns-in-Err c ns =
    let a = c.args in
    let g = c.gather-n in
    let u = c.slid-started in
    let j = c.joined_refusal-check in
    breed-answer (state a.session a.candidates.now a.plans.now ns a.pool.now) _ a.history.now (Some c.in-Err.refusal)
    (refused_is a.session a.history.now a.plans.now a.pool.now c.requires.0 a.room.now g.new.to g.result g.ensures.laid g.ensures.count
    _ (started-by a.session a.history.now a.plans.now a.pool.now c.requires.0 a.room.now g.new.to g.result g.ensures.laid g.ensures.count j.result _ u.ensures j.ensures) _ _ a.candidates.now ns c.in-Err.is refl)
    refl

pub returns-in-Ok : goal.returns-in-Ok
returns-in-Ok c ns =
    let a = c.args in
    let g = c.gather-n in
    let u = c.slid-started in
    let j = c.joined_refusal-check in
    let p = c.put in
    let b = c.bred_on-session in
    breed-answer (state a.session a.candidates.now a.plans.now ns a.pool.now) _ a.history.now None
    (refused_is a.session a.history.now a.plans.now a.pool.now c.requires.0 a.room.now g.new.to g.result g.ensures.laid g.ensures.count
    _ (started-by a.session a.history.now a.plans.now a.pool.now c.requires.0 a.room.now g.new.to g.result g.ensures.laid g.ensures.count j.result _ u.ensures j.ensures) _ _ a.candidates.now ns c.in-Ok.is refl)
    (ap (bred_exit None) (breed_is a.session a.history.now a.plans.now a.pool.now c.requires.0 a.room.now g.new.to g.result g.ensures.laid g.ensures.count
    c.requires.1 _ p.ensures a.candidates.now ns _ _ _ (b.ensures ∙ ap (λ (x : Session). bred_on x (take (a.session.progress.n_waiting * plan_words + g.result) p.new.words) a.candidates.now p.new.words) u.ensures)))
