use Rattle.std.proofs.Common.{◌≡◌, map, take}
use Rattle.isle_ast.specs.Views.{defs as seen}
use Rattle.isle_types.specs.TypeEnvironment.{type_in}
use Rattle.isle_types.proofs.type_environment.tuple_types.Given as goal

abbrev pub invariant-loop-name : goal.invariant-loop-name
invariant-loop-name l = l.types.items ≡ map (type_in (seen l.names.declarations.now)) (take l.name-index l.given)
