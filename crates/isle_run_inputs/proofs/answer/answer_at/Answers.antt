use Rattle.std.proofs.Common.{rules, ◌≡◌, List, map, sym, ap, ◌∙◌}
use Rattle.isle_core.specs.Value.{Several}
use Rattle.isle_core.specs.ValueViews.{values}
use Rattle.isle_answers.specs.declared.form.ResultForm.{ResultForm}
use Rattle.isle_answers.specs.Views.{answer_seen, result_seen}
use Rattle.isle_run_inputs.specs.AnswersAt.{result_at, answer_at}
use Rattle.isle_run_inputs.proofs.answer.answer_at.Goals as goal

pub returns-in_ok-items-in-List : goal.returns-in_ok-items-in-List
returns-in_ok-items-in-List c = λ env e.
    let made : c.new-in-List.result ≡ c.in_ok-items-in-List.items.items = search rules in
    let given : c.as_slice.result.now ≡ c.in-List.items = search rules in
    ap (λ vss. Several (map values vss)) made
    ∙ ap Several (c.in_ok-items-in-List.ensures env e)
    ∙ ap (λ (fs : List ResultForm). Several (map (result_at env c.args.tys.now) (map result_seen fs))) given
    ∙ ap (λ f. answer_at env c.args.tys.now (answer_seen f)) (sym c.in-List.is)
