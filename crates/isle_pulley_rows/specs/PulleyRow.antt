-- What isn't supported of a row: a predicate for each shape that a row may break.
use Rattle.std.specs.Prelude.{◌≡◌, ℕ, ◌<◌, List, [], ◌∷◌, ◌++◌, length, Bool, false, ◌&&◌, ◌||◌, not, is_some, if◌then◌else◌, map, IsTrue, codes}
use Rattle.std.specs.List.{AllByRecursion, flat_map, list_any}
use Rattle.std.specs.Str.{bytes_eq}
use Rattle.isle_meta.specs.declared.pulley.PulleyInst.{PulleyInst}
use Rattle.isle_meta.specs.TableNames.{repeats, repeats_after}
use Rattle.isle_spelling.specs.Identifier.{IsIdentifier}
use Rattle.isle_pulley_rows.specs.BinaryParts.{binary}
use Rattle.isle_pulley_rows.specs.Names.{operand_names, operand_types}
use Rattle.isle_pulley_rows.specs.Operands.{Field, operands}
use Rattle.isle_pulley_rows.specs.Results.{results}
use Rattle.isle_pulley_rows.specs.Skipped.{is_skipped}

-- ---- names

-- the names of fields, in order
abbrev pub field_names : List Field → List (List ℕ)
field_names fields = map (λ (f : Field). f.0) fields

-- the names of a row: its own two, and those of its fields
abbrev pub row_names : PulleyInst → List (List ℕ)
row_names row = row.snake_name ∷ row.name ∷ field_names row.fields

-- ---- terms

-- the term of a row
abbrev pub own_term : PulleyInst → List ℕ
own_term row = codes "pulley_" ++ row.snake_name

-- the term of the instruction that it makes
abbrev pub instruction_term : PulleyInst → List ℕ
instruction_term row = codes "RawInst." ++ row.name

-- the terms of a row: its own, and the instruction that it makes; a skipped row has none
abbrev pub row_terms : PulleyInst → List (List ℕ)
row_terms row = if is_skipped row then [] else own_term row ∷ instruction_term row ∷ []

-- the terms of rows, in order
abbrev pub all_terms : List PulleyInst → List (List ℕ)
all_terms rows = flat_map row_terms rows

-- ---- names within a row

-- two fields or two operands of the row have one name
abbrev pub repeats_part : PulleyInst → Bool
repeats_part row = repeats (field_names row.fields) || repeats (operand_names (operands row))

-- ---- binary operands

-- a field that is named as binary operands has another type
abbrev pub is_misnamed : Field → Bool
is_misnamed f = bytes_eq f.0 (codes "operands") && not (is_some (binary f.1))

-- ---- what is refused

-- one of its names is no identifier
abbrev pub BadName : PulleyInst → Type 0
BadName row = AllByRecursion IsIdentifier (row_names row) → ⊥

-- one of its terms is an earlier one, or two of its fields or operands have one name
abbrev pub RepeatedName : (earlier : List (List ℕ)) → (before : List PulleyInst) → PulleyInst → Type 0
RepeatedName earlier before row = IsTrue (repeats_after (earlier ++ all_terms before) (row_terms row) || repeats_part row)

-- the field `operands` has another type than one of binary operands
abbrev pub BinaryOperands : PulleyInst → Type 0
BinaryOperands row = (is_skipped row ≡ false) × IsTrue (list_any is_misnamed row.fields)

-- it has more than two results
abbrev pub Results : PulleyInst → Type 0
Results row = (is_skipped row ≡ false) × (2 < length (results (operands row)))

-- the type of one of its operands is no identifier
abbrev pub FieldType : PulleyInst → Type 0
FieldType row = (is_skipped row ≡ false) × (AllByRecursion IsIdentifier (operand_types (operands row)) → ⊥)
