-- The names of a source that was checked are lawful, and the builtin types are its first ones.
use Rattle.std.proofs.Common.{◌≡◌, ℕ, List, ◌++◌, Some, refl, sym, subst}
use Rattle.std.specs.Prelude.{filter_map, slice_get}
use Rattle.isle_core.specs.declared.files.Files.{Files}
use Rattle.isle_core.specs.declared.types.BuiltinType.{BuiltinType}
use Rattle.isle_core.specs.declared.types.BuiltinType.TheVariants as builtin
use Rattle.isle_core.specs.declared.types.IntType.TheVariants.{U8, U16, U32, U64, U128, USize, I8, I16, I32, I64, I128, ISize}
use Rattle.isle_core.specs.declared.types.TypeDef.{TypeDef}
use Rattle.isle_core.specs.declared.types.TypeDef.TheVariants as def
use Rattle.isle_core.specs.declared.types.TypeEnv.{TypeEnv}
use Rattle.isle_core.specs.Rule.{Environment}
use Rattle.isle_ast.specs.Tree.{Def}
use Rattle.isle_types.specs.Builtins.{builtins}
use Rattle.isle_types.specs.TypeEnvironment.{type_def_in}
use Rattle.isle_sema.specs.Typing.{Typed}
use Rattle.isle_sema.proofs.TypedParts.{given_in}
use Rattle.isle_codegen.specs.Checked.{IsChecked}
use Rattle.isle_codegen.proofs.LawfulNames.{compilable}
use Rattle.isle_run.proofs.LawfulNames.{HasLawfulNames}
use Rattle.isle_run.proofs.NamedTypes.{HasBuiltins}

-- a type of this definition is among types
abbrev IsAmong : List TypeDef → TypeDef → Type 0
IsAmong types d = (i : ℕ) × (slice_get types i ≡ Some d)

builtin_first : (more : List TypeDef) (of : BuiltinType) → IsAmong (builtins ++ more) (def.Builtin of)
builtin_first more builtin.Bool = (0, refl)
builtin_first more (builtin.Int U8) = (1, refl)
builtin_first more (builtin.Int U16) = (2, refl)
builtin_first more (builtin.Int U32) = (3, refl)
builtin_first more (builtin.Int U64) = (4, refl)
builtin_first more (builtin.Int U128) = (5, refl)
builtin_first more (builtin.Int USize) = (6, refl)
builtin_first more (builtin.Int I8) = (7, refl)
builtin_first more (builtin.Int I16) = (8, refl)
builtin_first more (builtin.Int I32) = (9, refl)
builtin_first more (builtin.Int I64) = (10, refl)
builtin_first more (builtin.Int I128) = (11, refl)
builtin_first more (builtin.Int ISize) = (12, refl)

typed_builtins : (defs : List Def) (env : Environment) → Typed defs env → HasBuiltins env.types
typed_builtins defs env typed of = subst (λ (types : TypeEnv). IsAmong types.types (def.Builtin of)) (sym (given_in typed).types) (builtin_first (filter_map (type_def_in defs) defs) of)

-- so of the environment of a source that was checked
pub lawful_names : (files : Files) (env : Environment) → IsChecked files env → HasLawfulNames env
lawful_names files env c = record {
  has_rules = _;
  lawful = (compilable c.lawful).lawful;
  builtins = typed_builtins c.defs env c.lawful.typed.typed;
}
