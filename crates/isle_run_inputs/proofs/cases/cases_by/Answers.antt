use Rattle.std.proofs.Common.{rules, ◌≡◌, map, sym, ap, ◌∙◌}
use Rattle.std.specs.Prelude.{option_map}
use Rattle.isle_core.specs.ValueViews.{case}
use Rattle.isle_answers.specs.Views.{answer_seen, case_seen}
use Rattle.isle_run_inputs.specs.AnswersAt.{cases_by}
use Rattle.isle_run_inputs.specs.AskedFunctions.{asked_seen}
use Rattle.isle_run_inputs.proofs.FormSteps.{cases_made}
use Rattle.isle_run_inputs.proofs.cases.cases_by.Goals as goal

pub returns : goal.returns
returns c = λ env e.
    let made : c.new-2.result ≡ c.in_ok-cases.cases.items = search rules in
    cases_made env (asked_seen c.in-Some.asked) c.args.callee.now c.in_ok-callee.callee c.args.cases.now c.args.rest.now c.new-2.result c.in_ok-rest.rest c.in_ok-callee.ensures (ap (map case) made ∙ c.in_ok-cases.ensures env e) (c.in_ok-rest.ensures env e)
    ∙ ap (λ a. cases_by env (option_map asked_seen a) c.args.callee.now (map case_seen c.args.cases.now) (answer_seen c.args.rest.now)) (sym c.in-Some.is)
