-- A meaning of the called terms: the answers of each, as data.
use Rattle.std.specs.Prelude.{ℕ, List, [], ◌∷◌, Bool, true, false, ◌&&◌, Option, Some, None, filter, find, length, slice_index_or}
use Rattle.isle_core.specs.declared.values.Callee.{Callee}
use Rattle.isle_core.specs.Value.{Value, Answer, Nothing, Made}
use Rattle.isle_core.specs.SameInRun.{same_in_run}
use Rattle.isle_core.specs.Terms.{goes_to}

-- an extractor or a pure term: the first case whose arguments are equal in a run answers, or else the rest
pub record PureAnswers : Type 0 where
  pub callee : Callee
  pub cases : List (List Value × Answer)
  pub rest : Answer

-- an impure term: its n-th call takes the n-th turn, and a call past them the rest
pub record TurnAnswers : Type 0 where
  pub callee : Callee
  pub turns : List Answer
  pub rest : Answer

-- the values of constants, and the answers
pub record Meaning : Type 0 where
  pub consts : List (List ℕ × Value)
  pub pure : List PureAnswers
  pub turns : List TurnAnswers

-- ---- turns

-- how many of the calls went to the callee
abbrev pub times : Callee → List Made → ℕ
times callee made = length (filter (λ (c : Made). goes_to callee (Some c.callee)) made)

-- the answers of an impure callee
abbrev pub turns_of : Meaning → Callee → Option TurnAnswers
turns_of m callee = find (λ (a : TurnAnswers). goes_to callee (Some a.callee)) m.turns

-- the n-th turn, counted from 0, or the rest
abbrev pub turn_at : Option TurnAnswers → ℕ → Answer
turn_at None n = Nothing
turn_at (Some a) n = slice_index_or a.turns n a.rest

-- what a call of an impure callee is answered after these calls
abbrev pub turn : Meaning → Callee → List Made → Answer
turn m callee made = turn_at (turns_of m callee) (times callee made)

-- ---- cases

-- whether two lists of values are equal in a run
abbrev pub same_values : List Value → List Value → Bool
same_values [] [] = true
same_values (v ∷ vs) (w ∷ ws) = same_in_run v w && same_values vs ws
same_values [] (w ∷ ws) = false
same_values (v ∷ vs) [] = false

-- the answers of a pure callee
abbrev pub cases_of : Meaning → Callee → Option PureAnswers
cases_of m callee = find (λ (a : PureAnswers). goes_to callee (Some a.callee)) m.pure

-- the answer of a case, or else the rest
abbrev pub case_or : Answer → Option (List Value × Answer) → Answer
case_or rest None = rest
case_or rest (Some c) = c.1

-- the answer to these arguments
abbrev pub case_at : Option PureAnswers → List Value → Answer
case_at None vs = Nothing
case_at (Some a) vs = case_or a.rest (find (λ (c : List Value × Answer). same_values c.0 vs) a.cases)

-- what a call of a pure callee is answered
abbrev pub case : Meaning → Callee → List Value → Answer
case m callee vs = case_at (cases_of m callee) vs
