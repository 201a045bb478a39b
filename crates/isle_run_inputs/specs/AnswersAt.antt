-- The answers that forms give.
use Rattle.std.specs.Prelude.{ℕ, List, [], ◌∷◌, map, Option, Some, None}
use Rattle.isle_core.specs.declared.TypeId.{TypeId}
use Rattle.isle_core.specs.declared.values.Callee.{Callee}
use Rattle.isle_core.specs.Rule.{Environment}
use Rattle.isle_core.specs.Value.{Answer}
use Rattle.isle_core.specs.Value as value
use Rattle.isle_core.specs.Meaning.{PureAnswers, TurnAnswers, Meaning}
use Rattle.isle_answers.specs.Form.{ResultForm, One, Tuple, AnswerForm, Plain, Found, Nothing, Several, CaseForm, Form, Held, Const, Answers, Turns}
use Rattle.isle_values.specs.Views.{in_order}
use Rattle.isle_values.specs.Written.{Written}
use Rattle.isle_run_inputs.specs.ValuesAt.{misfit, value_at_any, values_at}
use Rattle.isle_run_inputs.specs.Requested.{answer_type, constant_type}
use Rattle.isle_run_inputs.specs.Asked.{Asked, asked_as}

-- the type if there is only one
abbrev pub one_type : List TypeId → Option TypeId
one_type [] = None
one_type (ty ∷ []) = Some ty
one_type (ty ∷ other ∷ tys) = None

-- a tuple at the types of none or several results; if there is one, it is none of its type
abbrev pub tuple_at : Environment → List TypeId → List Written → List value.Value
tuple_at env [] vs = values_at env [] (in_order vs)
tuple_at env (ty ∷ []) vs = misfit ∷ []
tuple_at env (ty ∷ other ∷ tys) vs = values_at env (ty ∷ other ∷ tys) (in_order vs)

-- results at the types of what their callee answers
abbrev pub result_at : Environment → List TypeId → ResultForm → List value.Value
result_at env tys (One v) = value_at_any env (one_type tys) v ∷ []
result_at env tys (Tuple vs) = tuple_at env tys vs

-- an answer at these types; of several items each is at them
abbrev pub answer_at : Environment → List TypeId → AnswerForm → Answer
answer_at env tys (Plain r) = value.Plain (result_at env tys r)
answer_at env tys (Found r) = value.Found (result_at env tys r)
answer_at env tys Nothing = value.Nothing
answer_at env tys (Several rs) = value.Several (map (result_at env tys) rs)

-- an answer that fits no function, and so is refused where it stands: a value of no type
abbrev pub unfit : Answer
unfit = value.Plain (misfit ∷ [])

-- turns of a callee whose calls are answered with a value of this type; if it is that of no impure term, they fit no function, so that
-- the form is refused whatever it says
abbrev pub turns_by : Environment → Option TypeId → Callee → List AnswerForm → (rest : AnswerForm) → TurnAnswers
turns_by env None callee turns rest = record { callee = callee; turns = []; rest = unfit }
turns_by env (Some ty) callee turns rest = record { callee = callee; turns = map (answer_at env (ty ∷ [])) turns; rest = answer_at env (ty ∷ []) rest }

-- the turns of forms
abbrev pub turns_at : Environment → List Form → List TurnAnswers
turns_at env [] = []
turns_at env (Turns callee turns rest at ∷ forms) = turns_by env (answer_type env callee) callee turns rest ∷ turns_at env forms
turns_at env (Held count at ∷ forms) = turns_at env forms
turns_at env (Const name v at ∷ forms) = turns_at env forms
turns_at env (Answers callee cases rest at ∷ forms) = turns_at env forms

-- a case of a function that is asked by cases: its arguments at what the function takes, and its answer at what it gives
abbrev pub case_at : Environment → Asked → CaseForm → List value.Value × Answer
case_at env a c = (values_at env a.params (in_order c.args), answer_at env a.results c.answer)

-- cases of a callee whose function is of these types; if it is none that is asked by cases, they fit no function, so that the form is
-- refused whatever it says
abbrev pub cases_by : Environment → Option Asked → Callee → List CaseForm → (rest : AnswerForm) → PureAnswers
cases_by env None callee cases rest = record { callee = callee; cases = []; rest = unfit }
cases_by env (Some a) callee cases rest = record { callee = callee; cases = map (case_at env a) cases; rest = answer_at env a.results rest }

-- the cases of forms
abbrev pub cases_at : Environment → List Form → List PureAnswers
cases_at env [] = []
cases_at env (Answers callee cases rest at ∷ forms) = cases_by env (asked_as env callee) callee cases rest ∷ cases_at env forms
cases_at env (Held count at ∷ forms) = cases_at env forms
cases_at env (Const name v at ∷ forms) = cases_at env forms
cases_at env (Turns callee turns rest at ∷ forms) = cases_at env forms

-- the values that forms give constants, each at the type of its constant
abbrev pub constants_at : Environment → List Form → List (List ℕ × value.Value)
constants_at env [] = []
constants_at env (Const name v at ∷ forms) = (name, value_at_any env (constant_type env name) v) ∷ constants_at env forms
constants_at env (Held count at ∷ forms) = constants_at env forms
constants_at env (Answers callee cases rest at ∷ forms) = constants_at env forms
constants_at env (Turns callee turns rest at ∷ forms) = constants_at env forms

-- the answers of forms
abbrev pub answers_at : Environment → List Form → Meaning
answers_at env forms = record { consts = constants_at env forms; pure = cases_at env forms; turns = turns_at env forms }
