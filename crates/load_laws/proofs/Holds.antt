-- THE FILE HOLDS THE LOAD: it fits, reads back as exactly the plans drawn, and `choose` turns it down with nothing.
use mathlib.Core.Path.{◌≡◌, ap, ◌∙◌}
use mathlib.Core.Bool.{false}
use Rattle.model.specs.Refusal.{form_refusal, refusal_of_parsed, choose_refusal}
use Rattle.model.specs.Calls.{max_text}
use Rattle.model.specs.Load.{Load, load_text, bad_load, Holds}
use Rattle.load_laws.specs.Words.{LoadWords}
use Rattle.load_laws.proofs.Files.{load-reads}
use Rattle.load_laws.proofs.Refusals.{good-counts, file_fits, none_refuses}

pub holds : (l : Load) → bad_load l ≡ false → LoadWords l → Holds l (load_text l)
unfolding choose_refusal
holds l good words =
    let fits = file_fits l good in
    let counted = good-counts l good in
    let reads = load-reads l words counted.narrow fits in
    record { fits = fits; reads = reads; chosen = ap (λ o. refusal_of_parsed (form_refusal (load_text l)) o max_text) reads ∙ none_refuses l counted }
