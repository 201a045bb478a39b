-- What contracts see of the code's values, answers and outcomes.
use Rattle.std.specs.Prelude.{ℕ, List, [], ◌∷◌, map}
use Rattle.isle_core.specs.declared.values.Value.{Value as CodeValue}
use Rattle.isle_core.specs.declared.values.Value.TheOpen.{Value-F}
use Rattle.isle_core.specs.declared.values.Value.TheOpen as code
use Rattle.isle_core.specs.declared.values.Value.TheFolds.{fold-Value}
use Rattle.isle_core.specs.declared.values.Answer.{Answer as CodeAnswer}
use Rattle.isle_core.specs.declared.values.Answer.TheVariants as code_answer
use Rattle.isle_core.specs.declared.values.PureAnswers.{PureAnswers as CodePureAnswers}
use Rattle.isle_core.specs.declared.values.TurnAnswers.{TurnAnswers as CodeTurnAnswers}
use Rattle.isle_core.specs.declared.values.Answers.{Answers as CodeAnswers}
use Rattle.isle_core.specs.declared.values.CallMade.{CallMade as CodeCallMade}
use Rattle.isle_core.specs.declared.values.End.{End as CodeEnd}
use Rattle.isle_core.specs.declared.values.End.TheVariants as code_end
use Rattle.isle_core.specs.declared.values.Outcome.{Outcome as CodeOutcome}
use Rattle.isle_core.specs.Value.{Value, Truth, Int, Opaque, Variant, Struct, FieldValues, NoField, Field, Answer, Plain, Found, Nothing, Several, Made, End, Gives, GivesSome, GivesNone, IsUnreachable, GivesList, Ran}
use Rattle.isle_core.specs.Meaning.{PureAnswers, TurnAnswers, Meaning}

-- fields, their values seen already
abbrev pub fields_of : List (List ℕ × Value) → FieldValues
fields_of [] = NoField
fields_of (field ∷ fields) = Field field.0 field.1 (fields_of fields)

-- one value, if those inside it are seen already
abbrev pub value_step : Value-F Value → Value
value_step (code.Bool b) = Truth b
value_step (code.Int ty n) = Int ty n
value_step (code.Opaque ty n) = Opaque ty n
value_step (code.Variant ty variant fields) = Variant ty variant (fields_of fields)
value_step (code.Struct ty fields) = Struct ty (fields_of fields)

-- a value
abbrev pub value : CodeValue → Value
value = fold-Value Value value_step

-- values in order
abbrev pub values : List CodeValue → List Value
values = map value

-- an answer
abbrev pub answer : CodeAnswer → Answer
answer (code_answer.Plain vs) = Plain (values vs)
answer (code_answer.Some vs) = Found (values vs)
answer code_answer.Nothing = Nothing
answer (code_answer.List items) = Several (map values items)

-- a case
abbrev pub case : List CodeValue × CodeAnswer → List Value × Answer
case c = (values c.0, answer c.1)

-- the answers of a pure term
abbrev pub pure_answers : CodePureAnswers → PureAnswers
pure_answers a = record { callee = a.callee; cases = map case a.cases; rest = answer a.rest }

-- the answers of an impure term
abbrev pub turn_answers : CodeTurnAnswers → TurnAnswers
turn_answers a = record { callee = a.callee; turns = map answer a.turns; rest = answer a.rest }

-- a constant
abbrev pub const : List ℕ × CodeValue → List ℕ × Value
const c = (c.0, value c.1)

-- all answers, as a meaning
abbrev pub meaning : CodeAnswers → Meaning
meaning a = record { consts = map const a.consts; pure = map pure_answers a.pure; turns = map turn_answers a.turns }

-- a call
abbrev pub made : CodeCallMade → Made
made c = record { callee = c.callee; args = values c.args }

-- an end
abbrev pub end : CodeEnd → End
end (code_end.Value v) = Gives (value v)
end (code_end.Some v) = GivesSome (value v)
end code_end.Nothing = GivesNone
end code_end.Unreachable = IsUnreachable
end (code_end.List vs) = GivesList (values vs)

-- an outcome
abbrev pub ran : CodeOutcome → Ran
ran o = record { end = end o.end; calls = map made o.calls }
