-- The text of units, line by line.
use Rattle.std.specs.Prelude.{ℕ, List, ◌++◌, codes}
use Rattle.std.specs.List.{flat_map}
use Rattle.isle_units.specs.Units.{inputs_of}
use Rattle.isle_units.specs.declared.compilation.IsleCompilation.{IsleCompilation}
use Rattle.isle_units.specs.declared.compilations.IsleCompilations.{IsleCompilations}

-- how a line ends
abbrev pub line_end : List ℕ
line_end = codes "\n"

-- the line of an input
abbrev pub input_line : List ℕ → List ℕ
input_line input = codes "  " ++ (input ++ line_end)

-- the lines of a unit: its name and output, and then its inputs
abbrev pub unit_text : IsleCompilation → List ℕ
unit_text u = u.name ++ (codes " " ++ (u.output ++ (line_end ++ flat_map input_line (inputs_of u))))

-- the lines of all units
abbrev pub units_text : IsleCompilations → List ℕ
units_text units = flat_map unit_text units.items
