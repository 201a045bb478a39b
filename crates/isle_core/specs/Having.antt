-- When a meaning has the answers of another one, as those of a file.
use Rattle.std.specs.Prelude.{◌≡◌, ℕ, List, All, Option, Some, None, find, option_map}
use Rattle.std.specs.Str.{bytes_eq}
use Rattle.isle_core.specs.Value.{Value}
use Rattle.isle_core.specs.Meaning.{PureAnswers, TurnAnswers, Meaning, turns_of, cases_of}

-- the value of a constant
abbrev pub const_of : Meaning → List ℕ → Option Value
const_of m name = option_map (λ (c : List ℕ × Value). c.1) (find (λ (c : List ℕ × Value). bytes_eq name c.0) m.consts)

-- the meaning gives the constant this value
abbrev pub HasConst : Meaning → List ℕ × Value → Type 0
HasConst m c = const_of m c.0 ≡ Some c.1

-- the meaning answers the callee by these cases, and by no turns
abbrev pub HasCases : Meaning → PureAnswers → Type 0
HasCases m a = (cases_of m a.callee ≡ Some a) × (turns_of m a.callee ≡ None)

-- the meaning answers the callee by these turns
abbrev pub HasTurns : Meaning → TurnAnswers → Type 0
HasTurns m a = turns_of m a.callee ≡ Some a

-- the meaning has each constant's value, and each callee's cases, turns and rest, of the answers
pub record HasAnswers (m answers : Meaning) : Type 0 where
  pub consts : All (HasConst m) answers.consts
  pub cases : All (HasCases m) answers.pure
  pub turns : All (HasTurns m) answers.turns
