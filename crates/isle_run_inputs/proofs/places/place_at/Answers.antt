use Rattle.std.proofs.Common.{[], ◌++◌, ◌∙◌, ap, append-nil}
use Rattle.isle_answers.specs.Views.{forms_seen}
use Rattle.isle_run_inputs.specs.Places.{of_kind, place_in}
use Rattle.isle_run_inputs.specs.declared.places.Counted.TheVariants as counted
use Rattle.isle_run_inputs.proofs.places.place_at.Goals as goal

pub returns-in-Ok-place_of_kind-2 : goal.returns-in-Ok-place_of_kind-2
returns-in-Ok-place_of_kind-2 c =
    let cases = of_kind counted.Cases (forms_seen c.args.forms.now) in
    let turns = of_kind counted.Turns (forms_seen c.args.forms.now) in
    c.in-Ok-place_of_kind-2.ensures c.args.end [] ∙ ap (λ fs. place_in c.args.end fs c.in-Err-place_of_kind.left) (append-nil turns) ∙ c.in-Err-place_of_kind.ensures c.args.end turns ∙ c.in-Err.ensures c.args.end (cases ++ turns)

pub returns-in-Err-place_of_kind-2 : goal.returns-in-Err-place_of_kind-2
returns-in-Err-place_of_kind-2 c =
    let cases = of_kind counted.Cases (forms_seen c.args.forms.now) in
    let turns = of_kind counted.Turns (forms_seen c.args.forms.now) in
    c.in-Err-place_of_kind-2.ensures c.args.end [] ∙ ap (λ fs. place_in c.args.end fs c.in-Err-place_of_kind.left) (append-nil turns) ∙ c.in-Err-place_of_kind.ensures c.args.end turns ∙ c.in-Err.ensures c.args.end (cases ++ turns)
