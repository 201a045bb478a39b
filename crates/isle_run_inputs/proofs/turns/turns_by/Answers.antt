use Rattle.std.proofs.Common.{rules, ◌≡◌, [], ◌∷◌, map, sym, ap, ◌∙◌}
use Rattle.isle_core.specs.ValueViews.{answer}
use Rattle.isle_answers.specs.Views.{answer_seen}
use Rattle.isle_run_inputs.specs.AnswersAt.{turns_by}
use Rattle.isle_run_inputs.proofs.FormSteps.{turns_made}
use Rattle.isle_run_inputs.proofs.turns.turns_by.Goals as goal

pub returns : goal.returns
returns c = λ env e.
    let made : c.new-2.result ≡ c.in_ok-turns.turns.items = search rules in
    let one : c.from_ref-tys.result.now ≡ c.in-Some.ty ∷ [] = search rules in
    turns_made env c.in-Some.ty c.from_ref-tys.result.now c.args.callee.now c.in_ok-callee.callee c.args.turns.now c.args.rest.now c.new-2.result c.in_ok-rest.rest one c.in_ok-callee.ensures (ap (map answer) made ∙ c.in_ok-turns.ensures env e) (c.in_ok-rest.ensures env e)
    ∙ ap (λ ty. turns_by env ty c.args.callee.now (map answer_seen c.args.turns.now) (answer_seen c.args.rest.now)) (sym c.in-Some.is)
