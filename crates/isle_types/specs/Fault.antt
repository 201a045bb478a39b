-- The fault of a list of definitions in one stage: the first definition that breaks a row, and the lowest row that it breaks.
use Rattle.std.specs.Prelude.{List, [], ◌∷◌, ◌++◌, Bool, Option, Some, None, option_map, if◌then◌else◌}
use Rattle.isle_core.specs.declared.position.Pos.{Pos}
use Rattle.isle_ast.specs.Tree.{Def}
use Rattle.isle_ast.specs.Positions.{place_of}
use Rattle.isle_types.specs.declared.row.Row.{Row}
use Rattle.isle_types.specs.declared.row.Row.TheVariants as row
use Rattle.isle_types.specs.TypeRows.{type_repeats, field_repeats, field_type_missing, many_fields, made_term_repeats, constant_misfit}

-- the first of these rows that is broken
abbrev pub first_broken : (Row → Bool) → List Row → Option Row
first_broken breaks [] = None
first_broken breaks (r ∷ rows) = if breaks r then Some r else first_broken breaks rows

-- the first of two, if there is one
abbrev pub or_later : {X : Type 0} → Option X → Option X → Option X
or_later None later = later
or_later (Some first) later = Some first

-- the fault in these definitions, which follow those, by the row that each breaks after those before it
abbrev pub fault_after : (broken : (before : List Def) → Def → Option Row) → (before defs : List Def) → Option (Row × Pos)
fault_after broken before [] = None
fault_after broken before (d ∷ ds) = or_later (option_map (λ (r : Row). (r, place_of d)) (broken before d)) (fault_after broken (before ++ d ∷ []) ds)

-- the rows of types and constants, the lowest first
abbrev pub type_rows : List Row
type_rows = row.TypeRepeats ∷ row.FieldRepeats ∷ row.FieldTypeMissing ∷ row.ManyFields ∷ row.MadeTermRepeats ∷ row.ConstantMisfit ∷ []

-- the lowest of them that a definition breaks
abbrev pub type_row : (all before : List Def) → Def → Option Row
type_row all before d =
    if type_repeats before d then Some row.TypeRepeats
    else if field_repeats d then Some row.FieldRepeats
    else if field_type_missing all d then Some row.FieldTypeMissing
    else if many_fields d then Some row.ManyFields
    else if made_term_repeats before d then Some row.MadeTermRepeats
    else if constant_misfit all before d then Some row.ConstantMisfit
    else None

-- the fault of definitions in their types and constants
abbrev pub type_fault : List Def → Option (Row × Pos)
type_fault defs = fault_after (type_row defs) [] defs
