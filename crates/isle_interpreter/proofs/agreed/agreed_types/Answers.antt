use Rattle.std.proofs.Common.{◌≡◌, ℕ, List, None, map, ap, ◌∙◌}
use Rattle.std.proofs.lemmas.Result.{IfOk-weaker}
use Rattle.isle_tree.specs.Views.{function, program}
use Rattle.isle_interpreter.specs.Agreed.{at_name, agreed, agreed_at}
use Rattle.isle_interpreter.proofs.MapsNames.{agreed_named}
use Rattle.isle_places.specs.Places.{all_places, all_named}
use Rattle.isle_places.specs.ToldViews.{placed}
use Rattle.isle_places.proofs.PlacedStatements.{all_gathered}
use Rattle.isle_interpreter.proofs.agreed.agreed_types.Goals as goal

pub returns : goal.returns
returns c =
    let p = program c.args.signatures.now in
    let gathered : placed c.loop-f.places.items ≡ all_places p = all_gathered p c.args.fns.now c.loop-f.f-index (placed c.loop-f.places.items) c.loop-f-test.false c.loop-f.invariant (ap (map function) c.requires) in
    IfOk-weaker c.by_name.result (λ found. (name : List ℕ) → at_name found name ≡ agreed_at name (placed c.as_slice.result.now)) (λ found. (name : List ℕ) → at_name found name ≡ agreed name (all_named p))
    (λ found h name. h name ∙ ap (λ xs. agreed_at name (placed xs)) c.as_slice.ensures.value ∙ ap (agreed_at name) gathered ∙ agreed_named name None (all_places p)) c.by_name.ensures
