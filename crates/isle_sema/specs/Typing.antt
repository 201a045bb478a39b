-- What definitions give, if no row of the typing table is broken.
use Rattle.std.specs.Prelude.{◌≡◌, List, Option, Some, None}
use Rattle.isle_core.specs.declared.position.Pos.{Pos}
use Rattle.isle_core.specs.declared.types.TypeEnv.{TypeEnv}
use Rattle.isle_core.specs.Rule.{Environment}
use Rattle.isle_ast.specs.Tree.{Def}
use Rattle.isle_types.specs.declared.row.Row.{Row}
use Rattle.isle_types.specs.Fault.{type_fault}
use Rattle.isle_types.specs.TypeEnvironment.{type_env_of}
use Rattle.isle_types.specs.Gathered.{TellsTyping}
use Rattle.isle_sema.specs.declared.typing.EnvError.{EnvError}
use Rattle.isle_sema.specs.declared.typing.EnvError.TheVariants as error
use Rattle.isle_sema.specs.Fault.{fault_of}
use Rattle.isle_terms.specs.Whole.{whole_of}
use Rattle.isle_sema.specs.Environment.{env_of}

-- the fault of definitions, if they have one: its row and the place of its definition
abbrev pub fault : List Def → Option (Row × Pos)
fault defs = fault_of (whole_of defs)

-- the definitions have no fault in their types and constants, and give these
pub record TypesFrom (defs : List Def) (types : TypeEnv) : Type 0 where
  pub sound : type_fault defs ≡ None
  pub given : types ≡ type_env_of defs

-- the definitions have no fault, and give the environment
pub record Typed (defs : List Def) (env : Environment) : Type 0 where
  pub sound : fault defs ≡ None
  pub given : env_of defs ≡ Some env

-- they give some environment
abbrev pub SomeTyped : List Def → Type 0
SomeTyped defs = (env : Environment) × Typed defs env

-- why definitions with this fault, or none, give no types or no environment: the fault, which is reported; or want of memory
abbrev pub IsUntyped : (found : Option (Row × Pos)) → EnvError → Type 0
IsUntyped found (error.Typing e) = TellsTyping found (Some e)
IsUntyped found error.Memory = Unit {0}

-- the one environment that the definitions give
pub record TypedOnly (defs : List Def) (env : Environment) : Type 0 where
  pub typed : Typed defs env
  pub only : (other : Environment) → Typed defs other → other ≡ env
