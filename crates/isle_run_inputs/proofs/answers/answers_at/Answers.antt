use Rattle.std.proofs.Common.{rules, ◌≡◌, ◌<◌, length, map, refl, ap, ◌∙◌}
use Rattle.isle_core.specs.Rule.{Environment}
use Rattle.isle_core.specs.RuleViews.{environment}
use Rattle.isle_core.specs.ValueViews.{const, pure_answers, turn_answers}
use Rattle.isle_run_inputs.proofs.Counted.{counted}
use Rattle.isle_run_inputs.proofs.answers.answers_at.Goals as goal

pub returns-clause-counted : goal.returns-clause-counted
returns-clause-counted c =
    let env : Environment = environment c.in_ok-makers.makers c.args.termenv.now in
    let consts : c.new-2.result ≡ c.in_ok-consts.consts.items = search rules in
    let cases : c.new-3.result ≡ c.in_ok-pure.pure.items = search rules in
    let turns : c.new-4.result ≡ c.in_ok-turns.turns.items = search rules in
    let few : length c.args.forms.now < 18446744073709551616 = search rules in
    counted env c.args.forms.now c.new-2.result c.new-3.result c.new-4.result 18446744073709551616 (ap (map const) consts ∙ c.in_ok-consts.ensures env refl) (ap (map pure_answers) cases ∙ c.in_ok-pure.ensures)
    (ap (map turn_answers) turns ∙ c.in_ok-turns.ensures) few
