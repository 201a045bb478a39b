use Rattle.std.proofs.Common.{◌≡◌, map, take}
use Rattle.isle_ast.specs.Views.{defs as seen}
use Rattle.isle_declarations.specs.DeclaredTypes.{constants}
use Rattle.isle_types.specs.TypeEnvironment.{constant_in}
use Rattle.isle_types.proofs.type_environment.constants_of.Given as goal

abbrev pub invariant-loop-given : goal.invariant-loop-given
invariant-loop-given l = l.found.items ≡ map (constant_in (seen l.names.declarations.now)) (constants (seen (take l.given-index l.defs)))
