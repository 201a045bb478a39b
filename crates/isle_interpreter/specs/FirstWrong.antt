-- Which argument is the first wrong one, if any.
use Rattle.std.specs.Prelude.{ℕ, List, Option, Some, None}
use Rattle.isle_core.specs.Value.{Value}
use Rattle.isle_tree.specs.declared.tree.TypeItem.{TypeItem}
use Rattle.isle_interpreter.specs.Named.{AreNamed}
use Rattle.isle_interpreter.specs.Refusals.{IsWrongArg}

-- none is wrong, or this one is the first
abbrev pub IsFirstWrong : List TypeItem → List (List ℕ) → List Value → Option ℕ → Type 0
IsFirstWrong types names vs None = AreNamed types names vs
IsFirstWrong types names vs (Some i) = IsWrongArg types names vs i
