-- What contracts see of the code's forms.
use Rattle.std.specs.Prelude.{List, map}
use Rattle.isle_values.specs.declared.written.Written.{Written as CodeWritten}
use Rattle.isle_values.specs.Views.{written}
use Rattle.isle_answers.specs.declared.form.ResultForm.{ResultForm as CodeResult}
use Rattle.isle_answers.specs.declared.form.ResultForm.TheVariants as code_result
use Rattle.isle_answers.specs.declared.form.AnswerForm.{AnswerForm as CodeAnswer}
use Rattle.isle_answers.specs.declared.form.AnswerForm.TheVariants as code_answer
use Rattle.isle_answers.specs.declared.form.Form.{Form as CodeForm}
use Rattle.isle_answers.specs.declared.form.Form.TheVariants as code_form
use Rattle.isle_answers.specs.Form.{ResultForm, One, Tuple, AnswerForm, Plain, Found, Nothing, Several, CaseForm, Form}
use Rattle.isle_answers.specs.Form as form

-- a result
abbrev pub result_seen : CodeResult → ResultForm
result_seen (code_result.One v) = One (written v)
result_seen (code_result.Tuple vs) = Tuple (map written vs)

-- an answer
abbrev pub answer_seen : CodeAnswer → AnswerForm
answer_seen (code_answer.Plain r) = Plain (result_seen r)
answer_seen (code_answer.Some r) = Found (result_seen r)
answer_seen code_answer.Nothing = Nothing
answer_seen (code_answer.List rs) = Several (map result_seen rs)

-- a case
abbrev pub case_seen : List CodeWritten × CodeAnswer → CaseForm
case_seen c = record { args = map written c.0; answer = answer_seen c.1 }

-- a form
abbrev pub form_seen : CodeForm → Form
form_seen (code_form.Held count at) = form.Held count at
form_seen (code_form.Const name v at) = form.Const name (written v) at
form_seen (code_form.Answers callee cases rest at) = form.Answers callee (map case_seen cases) (answer_seen rest) at
form_seen (code_form.Turns callee turns rest at) = form.Turns callee (map answer_seen turns) (answer_seen rest) at

-- forms in order
abbrev pub forms_seen : List CodeForm → List Form
forms_seen = map form_seen
