-- What a check of rows answers.
use Rattle.std.specs.Prelude.{◌≡◌, ℕ, List, Option, Some, None, Result, Ok, Err}
use Rattle.isle_meta.specs.declared.errors.TableFail.{TableFail}
use Rattle.isle_meta.specs.declared.errors.TableFail.TheVariants as fail
use Rattle.isle_meta.specs.declared.errors.Unsupported.{Unsupported}
use Rattle.isle_meta.specs.declared.shapes.Shape.{Shape}

-- nothing if each row is supported, and else the first that isn't, with its first shape; want of memory is left open
abbrev pub Checks : (First : Option Unsupported → Type 0) → Result (Unit {0}) TableFail → Type 0
Checks First (Ok done) = First None
Checks First (Err (fail.Unsupported found)) = First (Some found)
Checks First (Err fail.Memory) = Unit {0}

-- what a search found is answered: nothing, or the refusal of a row; want of memory is left open
abbrev pub Answers : (found : Option Unsupported) → Result (Unit {0}) TableFail → Type 0
Answers found (Ok done) = found ≡ None
Answers found (Err (fail.Unsupported row)) = found ≡ Some row
Answers found (Err fail.Memory) = Unit {0}

-- a row is refused for a shape, or memory ran out
abbrev pub Refuses : (row : List ℕ) → Shape → TableFail → Type 0
Refuses row shape (fail.Unsupported found) = found ≡ record { row = row; shape = shape }
Refuses row shape fail.Memory = Unit {0}
