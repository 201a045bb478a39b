-- What a call is answered, by whether its callee has turns.
use Rattle.std.proofs.Common.{◌≡◌, List, Option, Some, None, ap, ◌∙◌}
use Rattle.isle_core.specs.declared.values.Callee.{Callee}
use Rattle.isle_core.specs.Value.{Value, Made}
use Rattle.isle_core.specs.Meaning.{PureAnswers, TurnAnswers, Meaning, turns_of, turn_at, times, cases_of, case_at}
use Rattle.isle_core.specs.Answered.{answer_by, answer}

pub by_turns : (m : Meaning) (callee : Callee) (vs : List Value) (made : List Made) (a : TurnAnswers) → turns_of m callee ≡ Some a → answer m callee vs made ≡ turn_at (Some a) (times callee made)
by_turns m callee vs made a e = ap (λ (o : Option TurnAnswers). answer_by o m callee vs made) e

pub by_cases : (m : Meaning) (callee : Callee) (vs : List Value) (made : List Made) (a : PureAnswers) → turns_of m callee ≡ None → cases_of m callee ≡ Some a → answer m callee vs made ≡ case_at (Some a) vs
by_cases m callee vs made a e f = ap (λ (o : Option TurnAnswers). answer_by o m callee vs made) e ∙ ap (λ (o : Option PureAnswers). case_at o vs) f
