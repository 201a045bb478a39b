-- What contracts see of what a name makes, and of the fields of a value that is being made.
use Rattle.std.specs.Prelude.{ℕ, List, [], ◌∷◌, Option, Some, None}
use Rattle.isle_core.specs.declared.TypeId.{TypeId}
use Rattle.isle_core.specs.declared.values.Value.{Value as CodeValue}
use Rattle.isle_core.specs.HasType.{typed_fields}
use Rattle.isle_core.specs.Rule.{Environment}
use Rattle.isle_core.specs.Value.{Value, FieldValues, Field}
use Rattle.isle_core.specs.ValueViews.{value}
use Rattle.isle_run_inputs.specs.Makers.{Maker, OfVariant, OfStruct}
use Rattle.isle_run_inputs.specs.declared.maker.Making.{Making}
use Rattle.isle_run_inputs.specs.declared.maker.Making.TheVariants as code

-- what is made, and the fields of it
abbrev pub making_seen : Environment → Making → Option (Maker × List (List ℕ × TypeId))
making_seen env (code.Variant ty variant fields) = Some (OfVariant ty.now variant.now, typed_fields env fields.now)
making_seen env (code.Struct ty fields) = Some (OfStruct ty.now, typed_fields env fields.now)
making_seen env code.Nothing = None

-- a field with its value
abbrev pub field_seen : List ℕ × CodeValue → List ℕ × Value
field_seen f = (f.0, value f.1)

-- these fields in front of others
abbrev pub fields_onto : List (List ℕ × CodeValue) → FieldValues → FieldValues
fields_onto [] more = more
fields_onto (f ∷ fs) more = Field f.0 (value f.1) (fields_onto fs more)
