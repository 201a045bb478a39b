-- What contracts see of the code's first words.
use Rattle.isle_answers.specs.declared.result.ResultHead.{ResultHead as CodeResultHead}
use Rattle.isle_answers.specs.declared.result.ResultHead.TheVariants as code_result
use Rattle.isle_answers.specs.declared.answer.AnswerHead.{AnswerHead as CodeAnswerHead}
use Rattle.isle_answers.specs.declared.answer.AnswerHead.TheVariants as code_answer
use Rattle.isle_answers.specs.declared.cases.PartHead.{PartHead as CodePartHead}
use Rattle.isle_answers.specs.declared.cases.PartHead.TheVariants as code_part
use Rattle.isle_answers.specs.declared.reading.FormHead.{FormHead as CodeFormHead}
use Rattle.isle_answers.specs.declared.reading.FormHead.TheVariants as code_form
use Rattle.isle_answers.specs.Reading.{ResultHead, TupleHead, MadeHead, AnswerHead, SomeHead, NoneHead, ListHead, ResultIs, PartHead, CaseHead, RestHead, FormHead, HeldHead, ConstHead, AnswersHead, TurnsHead}

-- what a result's list is
abbrev pub result_head_seen : CodeResultHead → ResultHead
result_head_seen code_result.Tuple = TupleHead
result_head_seen (code_result.Made name) = MadeHead name

-- what an answer's list is
abbrev pub answer_head_seen : CodeAnswerHead → AnswerHead
answer_head_seen code_answer.Some = SomeHead
answer_head_seen code_answer.Nothing = NoneHead
answer_head_seen code_answer.List = ListHead
answer_head_seen (code_answer.Result h) = ResultIs (result_head_seen h)

-- what a list in `answers` is
abbrev pub part_head_seen : CodePartHead → PartHead
part_head_seen code_part.Case = CaseHead
part_head_seen code_part.Rest = RestHead

-- what a form is
abbrev pub form_head_seen : CodeFormHead → FormHead
form_head_seen code_form.Held = HeldHead
form_head_seen code_form.Const = ConstHead
form_head_seen code_form.Answers = AnswersHead
form_head_seen code_form.Turns = TurnsHead
