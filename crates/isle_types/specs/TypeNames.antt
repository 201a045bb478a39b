-- What the name of a type means among definitions.
use Rattle.std.specs.Prelude.{ℕ, List, ◌++◌, Bool, true, false, ◌||◌, Option, is_some, map, option_map, find}
use Rattle.std.specs.Option.{option_map_or}
use Rattle.std.specs.Str.{bytes_eq}
use Rattle.isle_ast.specs.Tree.{Def}
use Rattle.isle_ast.specs.declared.tree.AstBody.{AstBody}
use Rattle.isle_ast.specs.declared.tree.AstBody.TheVariants.{Primitive, Enum, Struct}
use Rattle.isle_types.specs.Builtins.{builtin_names, builtin_named}
use Rattle.isle_declarations.specs.DeclaredTypes.{DeclaredType, types}

-- the names of the types that are declared
abbrev pub declared_names : List Def → List (List ℕ)
declared_names defs = map (λ (t : DeclaredType). t.name) (types defs)

-- the names of types, by their numbers: the builtin ones, then those that are declared
abbrev pub type_names : List Def → List (List ℕ)
type_names defs = builtin_names ++ declared_names defs

-- the first type declared by a name
abbrev pub declared_as : List Def → List ℕ → Option AstBody
declared_as defs name = option_map (λ (t : DeclaredType). t.body) (find (λ (t : DeclaredType). bytes_eq t.name name) (types defs))

-- a type that stands for one of Rust's
abbrev pub is_primitive : AstBody → Bool
is_primitive (Primitive rust) = true
is_primitive (Enum variants) = false
is_primitive (Struct fields) = false

-- the name is that of a type
abbrev pub is_type : List Def → List ℕ → Bool
is_type defs name = is_some (builtin_named name) || is_some (declared_as defs name)

-- the name is that of a builtin or a primitive type
abbrev pub is_scalar : List Def → List ℕ → Bool
is_scalar defs name = is_some (builtin_named name) || option_map_or is_primitive (declared_as defs name) false
