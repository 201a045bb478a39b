use Rattle.std.proofs.Common.{rules, ◌≡◌, ◌+◌, ◌∷◌, List, drop, refl, ap, ◌∙◌}
use Rattle.std.specs.Prelude.{option_map}
use Rattle.std.specs.List.{cons_option}
use Rattle.isle_core.specs.Rule.{Environment}
use Rattle.isle_core.specs.RuleViews.{environment}
use Rattle.isle_core.specs.ValueViews.{pure_answers}
use Rattle.isle_answers.specs.declared.form.Form.{Form}
use Rattle.isle_answers.specs.Views.{form_seen, forms_seen}
use Rattle.isle_run_inputs.specs.AnswersAt.{cases_at}
use Rattle.isle_run_inputs.proofs.FormSteps.{given_more, given_nothing}
use Rattle.isle_run_inputs.proofs.cases.cases_at.Goals as goal
use Rattle.isle_run_inputs.proofs.cases.cases_at.Goals.{in-Some+in_ok-push, in_default}

pub loop-form-preserved : goal.loop-form-preserved
loop-form-preserved c =
    let env : Environment = environment c.args.makers.now c.args.termenv.now in
    let rest : List Form = drop (c.loop-form.form-index + 1) c.args.forms.now in
    let gives : cases_at env (form_seen c.form-item.result ∷ forms_seen rest) ≡ cons_option (option_map pure_answers c.in_ok-cases.field-0) (cases_at env (forms_seen rest)) = c.in_ok-cases.ensures env (search rules) (search rules) refl (forms_seen rest) in
    elim c.match-branch-3.branch [
      | in-Some+in_ok-push w ↦
          given_more pure_answers (λ fs. cases_at env (forms_seen fs)) c.args.forms.now c.loop-form.form-index c.form-item.result c.loop-form.all.items c.match-branch-3.all.items w.in-Some.cases (cases_at env (forms_seen c.args.forms.now))
          c.loop-form-test.true c.form-item.is (gives ∙ ap (λ o. cons_option (option_map pure_answers o) (cases_at env (forms_seen rest))) w.in-Some.is) (ap (λ v. v.items) w.all-is ∙ w.in_ok-push.ensures.items) c.loop-form.invariant
      | in_default w ↦
          given_nothing pure_answers (λ fs. cases_at env (forms_seen fs)) c.args.forms.now c.loop-form.form-index c.form-item.result c.loop-form.all.items c.match-branch-3.all.items (cases_at env (forms_seen c.args.forms.now))
          c.loop-form-test.true c.form-item.is (gives ∙ ap (λ o. cons_option (option_map pure_answers o) (cases_at env (forms_seen rest))) w.in_default.is) (ap (λ v. v.items) w.all-is) c.loop-form.invariant
    ]
