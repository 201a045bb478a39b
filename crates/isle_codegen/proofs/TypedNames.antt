-- What typing says of the names, fields and constants of definitions.
use Rattle.std.proofs.Common.{List}
use Rattle.isle_core.specs.TypedParts.{HasTypedNames}
use Rattle.isle_core.specs.Rule.{Environment}
use Rattle.isle_ast.specs.Tree.{Def}
use Rattle.isle_types.proofs.SoundTypes.{typed_names}
use Rattle.isle_sema.specs.Typing.{Typed}
use Rattle.isle_sema.proofs.TypedParts.{given_in, typed_types_sound}

-- typing gives what lawful names ask of it
pub typed_parts : (defs : List Def) (env : Environment) → Typed defs env → HasTypedNames env
typed_parts defs env h = typed_names defs env (given_in h).types (typed_types_sound h)
