-- Which items of lists are chosen.
use Rattle.std.specs.Prelude.{ℕ}
use Rattle.isle_core.specs.Path.{Path}

-- the place of the chosen item in the list that stands at a path
abbrev pub Choice : Type 0
Choice = Path → ℕ

-- the first item of each list, which stands for any choice if nothing is a list
abbrev pub first_items : Choice
first_items p = 0
