use Rattle.std.proofs.Common.{◌≡◌, ap, ◌∙◌, map}
use Rattle.std.proofs.lemmas.Result.{IfOk-weaker}
use Rattle.isle_core.specs.Answered.{answer_held, answer}
use Rattle.isle_core.specs.ValueViews.{values, meaning, made}
use Rattle.isle_running.specs.RunViews.{held}
use Rattle.isle_running.specs.Sources.{source, answered_by}
use Rattle.std.specs.Prelude.{option_map}
use Rattle.isle_running.specs.Called.{Called}
use Rattle.isle_running.proofs.SourceLaws.{answers_call}
use Rattle.isle_running.proofs.called.Calls.answer.Goals as goal

pub returns : goal.returns
returns c =
    let inside = c.self.inside in
    let vs = values c.args.args.now in
    IfOk-weaker c.answered.result (λ h. held h ≡ answer_held (answered_by (option_map source c.get.result) vs))
    (λ h. held h ≡ answer_held (answer (meaning c.args.self.now.answers) c.args.callee.now vs (map made c.args.self.now.made)))
    (λ h given.
    given
    ∙ ap (λ o. answer_held (answered_by o vs)) c.get.ensures
    ∙ ap answer_held (answers_call (meaning inside.answers.now) (map made inside.calls.items) inside.sources c.args.callee.now vs c.self.invariant.0)
    ∙ ap (λ (s : Called). answer_held (answer (meaning s.answers) c.args.callee.now vs (map made s.made))) c.self.view_is)
    c.answered.ensures
