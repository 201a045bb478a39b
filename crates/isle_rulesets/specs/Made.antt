-- What terms make, as the code has it.
use Rattle.std.specs.Prelude.{List, Option, Some, None}
use Rattle.isle_core.specs.declared.BindingId.{BindingId}
use Rattle.isle_core.specs.declared.TupleIndex.{TupleIndex}
use Rattle.isle_core.specs.declared.rule_sets.Constraint.{Constraint}
use Rattle.isle_core.specs.declared.rule_sets.Constraint.TheVariants as constraint
use Rattle.isle_core.specs.Making.{Making, MakesVariant, MakesStruct, MakesNothing}
use Rattle.isle_rulesets.specs.declared.keys.Key.{Key}
use Rattle.isle_rulesets.specs.declared.keys.Key.TheVariants as key
use Rattle.isle_rulesets.specs.declared.made.Made.{Made}
use Rattle.isle_rulesets.specs.declared.made.Made.TheVariants as made

-- what is made
abbrev pub making_of : Made → Making
making_of (made.Variant ty variant) = MakesVariant ty variant
making_of (made.Struct ty) = MakesStruct ty

-- so if something is
abbrev pub seen : Option Made → Making
seen None = MakesNothing
seen (Some m) = making_of m

-- the constraint that a value is so made
abbrev pub constraint_of : Made → Constraint
constraint_of (made.Variant ty variant) = constraint.Variant ty variant
constraint_of (made.Struct ty) = constraint.Struct ty

-- the key of a field of what stands at a number
abbrev pub field_key : Made → BindingId → TupleIndex → Key
field_key (made.Variant ty variant) source field = key.MatchVariant source variant field
field_key (made.Struct ty) source field = key.ExtractStruct source field

-- the key of what is made of parts
abbrev pub whole_key : Made → List BindingId → Key
whole_key (made.Variant ty variant) fields = key.MakeVariant ty variant fields
whole_key (made.Struct ty) fields = key.MakeStruct ty fields
