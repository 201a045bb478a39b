-- What contracts see of the fields of a value.
use Rattle.std.specs.Prelude.{ℕ, List, [], ◌∷◌}
use Rattle.isle_core.specs.declared.values.Value.{Value as CodeValue}
use Rattle.isle_core.specs.Value.{FieldValues, NoField, Field}
use Rattle.isle_core.specs.ValueViews.{value}

-- the fields in order
abbrev pub fields : List (List ℕ × CodeValue) → FieldValues
fields [] = NoField
fields (f ∷ fs) = Field f.0 (value f.1) (fields fs)
