-- The forms of an answers file, as pure trees. Each has the place of its opening parenthesis.
use Rattle.std.specs.Prelude.{ℕ, List}
use Rattle.isle_core.specs.declared.values.Callee.{Callee}
use Rattle.isle_values.specs.Written.{Written}

-- one result, or a tuple of none or several
pub data ResultForm : Type 0 where
  One : Written → ResultForm
  Tuple : List Written → ResultForm

-- what a call answers
pub data AnswerForm : Type 0 where
  Plain : ResultForm → AnswerForm
  Found : ResultForm → AnswerForm
  Nothing : AnswerForm
  Several : List ResultForm → AnswerForm

-- what is answered if the arguments are these
pub record CaseForm : Type 0 where
  pub args : List Written
  pub answer : AnswerForm

pub data Form : Type 0 where
  -- the length of the returns list at entry
  Held : (count at : ℕ) → Form
  Const : (name : List ℕ) → Written → (at : ℕ) → Form
  Answers : Callee → List CaseForm → (rest : AnswerForm) → (at : ℕ) → Form
  Turns : Callee → List AnswerForm → (rest : AnswerForm) → (at : ℕ) → Form
