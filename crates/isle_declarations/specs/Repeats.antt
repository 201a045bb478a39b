-- Names that repeat.
use Rattle.std.specs.Prelude.{ℕ, List, [], ◌∷◌, ◌++◌, Bool, false, ◌||◌, is_some}
use Rattle.isle_declarations.specs.Symbols.{index_of}

-- a name repeats an earlier one, or one of these
abbrev pub repeats_after : List (List ℕ) → List (List ℕ) → Bool
repeats_after before [] = false
repeats_after before (name ∷ names) = is_some (index_of before name) || repeats_after (before ++ name ∷ []) names

-- a name repeats an earlier one
abbrev pub repeats : List (List ℕ) → Bool
repeats names = repeats_after [] names
