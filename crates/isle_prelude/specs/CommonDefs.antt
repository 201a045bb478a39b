-- The definitions with which both files of instructions begin.
use Rattle.std.specs.Prelude.{ℕ, List, ◌∷◌, ◌++◌, map, codes}
use Rattle.isle_ast.specs.Tree.{Def}
use Rattle.isle_meta.specs.declared.clif.ImmField.{ImmField}
use Rattle.isle_meta.specs.declared.tables.Tables.{Tables}
use Rattle.isle_prelude.specs.Arrays.{arrays}
use Rattle.isle_prelude.specs.Declaring.{bare, primitive, extern_enum}
use Rattle.isle_meta.specs.FormatRow.{all_fields}
use Rattle.isle_prelude.specs.Immediates.{plain_types, enum_types, enum_values}
use Rattle.isle_prelude.specs.InstructionData.{data_defs}

-- the enum of immediates of this type
abbrev pub imm_enum : List ImmField → List ℕ → Def
imm_enum is name = extern_enum name (map bare (enum_values is name))

-- the types of immediates
abbrev pub imm_defs : List ImmField → List Def
imm_defs is = map primitive (plain_types is) ++ (primitive (codes "MemFlagsData") ∷ map (imm_enum is) (enum_types is))

-- immediates, arrays, and instructions' data
abbrev pub common_defs : Tables → List Def
common_defs t = imm_defs (all_fields t.formats) ++ (arrays t.formats ++ data_defs t.formats t.instructions)
