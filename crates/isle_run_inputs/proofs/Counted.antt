-- Constants, cases and turns that forms give are together no more than the forms.
use Rattle.std.proofs.Common.{◌≡◌, ◌+◌, ◌<◌, ◌≤◌, ℕ, List, [], ◌∷◌, map, length, sym, ap, ◌∙◌, arith}
use Rattle.std.proofs.lemmas.List.{length-map}
use Rattle.isle_core.specs.Rule.{Environment}
use Rattle.isle_core.specs.declared.values.Value.{Value as CodeValue}
use Rattle.isle_core.specs.declared.values.PureAnswers.{PureAnswers as CodePureAnswers}
use Rattle.isle_core.specs.declared.values.TurnAnswers.{TurnAnswers as CodeTurnAnswers}
use Rattle.isle_core.specs.ValueViews.{const, pure_answers, turn_answers}
use Rattle.isle_answers.specs.Form.{Form, Held, Const, Answers, Turns}
use Rattle.isle_answers.specs.declared.form.Form.{Form as CodeForm}
use Rattle.isle_answers.specs.Views.{form_seen, forms_seen}
use Rattle.isle_run_inputs.specs.AnswersAt.{constants_at, cases_at, turns_at}

at_most : (env : Environment) (forms : List Form) → length (constants_at env forms) + length (cases_at env forms) + length (turns_at env forms) ≤ length forms
at_most env [] = omega arith
at_most env (Held count at ∷ forms) = let h = at_most env forms in omega (arith, h)
at_most env (Const name v at ∷ forms) = let h = at_most env forms in omega (arith, h)
at_most env (Answers callee cases rest at ∷ forms) = let h = at_most env forms in omega (arith, h)
at_most env (Turns callee turns rest at ∷ forms) = let h = at_most env forms in omega (arith, h)

as_many : {X Y : Type 0} (f : X → Y) (xs : List X) (ys : List Y) → map f xs ≡ ys → length xs ≡ length ys
as_many f xs ys e = sym (length-map xs f) ∙ ap length e

-- so if they were found, and the forms are fewer than this
pub counted : (env : Environment) (forms : List CodeForm) (consts : List (List ℕ × CodeValue)) (cases : List CodePureAnswers) (turns : List CodeTurnAnswers) (bound : ℕ)
    → map const consts ≡ constants_at env (forms_seen forms) → map pure_answers cases ≡ cases_at env (forms_seen forms) → map turn_answers turns ≡ turns_at env (forms_seen forms) → length forms < bound
    → length consts + length cases + length turns < bound
counted env forms consts cases turns bound a b c few =
    let most = at_most env (forms_seen forms) in
    let k = as_many const consts (constants_at env (forms_seen forms)) a in
    let l = as_many pure_answers cases (cases_at env (forms_seen forms)) b in
    let m = as_many turn_answers turns (turns_at env (forms_seen forms)) c in
    let n = length-map forms form_seen in
    omega (arith, most, k, l, m, n, few)
