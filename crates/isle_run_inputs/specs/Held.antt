-- What forms tell of the list of results: how long it is at entry.
use Rattle.std.specs.Prelude.{ℕ, List, [], ◌∷◌}
use Rattle.isle_answers.specs.Form.{Form, Held, Const, Answers, Turns}

-- the length at entry that the first of forms tells which tells one; 0 if none does
abbrev pub held_at : List Form → ℕ
held_at [] = 0
held_at (Held count at ∷ forms) = count
held_at (Const name v at ∷ forms) = held_at forms
held_at (Answers callee cases rest at ∷ forms) = held_at forms
held_at (Turns callee turns rest at ∷ forms) = held_at forms
