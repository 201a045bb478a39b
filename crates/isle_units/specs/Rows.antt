-- What a table of the code says.
use Rattle.std.specs.Prelude.{ℕ, List, map}
use denote.Ref.{Bor}
use Rattle.isle_units.specs.Units.{unit}
use Rattle.isle_units.specs.declared.compilation.IsleCompilation.{IsleCompilation}
use Rattle.isle_units.specs.declared.rows.UnitRow.{UnitRow}

-- borrowed texts
abbrev pub texts_of : List (Bor (List ℕ)) → List (List ℕ)
texts_of names = map (λ (name : Bor (List ℕ)). name.now) names

-- the unit of a row, in these folders
abbrev pub unit_of : (sources gen : List ℕ) → UnitRow → IsleCompilation
unit_of sources gen row = unit sources gen row.name.now row.output.now (texts_of row.tracked.now) (texts_of row.untracked.now)
