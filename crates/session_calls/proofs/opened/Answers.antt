use Rattle.session_calls.proofs.Property.{same-session, usable}
use Rattle.session_calls.proofs.opened.Goals as goal

pub returns : goal.returns
returns c =
    usable _ _ _ c.answered.ensures.ready
    (λ zero cs ps ns pool. same-session _ _ cs ps ns pool c.session_of_words.ensures (c.locustdomino_open-code.ensures.gives zero cs ps ns pool))
