-- Types by their names.
use Rattle.std.specs.Prelude.{ℕ, List, Option, option_map}
use Rattle.isle_core.specs.declared.TypeId.{TypeId}
use Rattle.isle_declarations.specs.Symbols.{index_of}
use Rattle.isle_ast.specs.Tree.{Def}
use Rattle.isle_types.specs.Builtins.{type_id}
use Rattle.isle_types.specs.TypeNames.{type_names}

-- the type of a name, if it is declared
abbrev pub type_named : List Def → List ℕ → Option TypeId
type_named defs name = option_map type_id (index_of (type_names defs) name)
