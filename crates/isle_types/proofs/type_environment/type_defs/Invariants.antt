use Rattle.std.proofs.Common.{◌≡◌, ◌++◌, take}
use Rattle.std.specs.Prelude.{filter_map}
use Rattle.isle_ast.specs.Views.{defs as seen}
use Rattle.isle_types.specs.Builtins.{builtins}
use Rattle.isle_types.specs.TypeEnvironment.{type_def_in}
use Rattle.isle_types.proofs.type_environment.type_defs.Given as goal

abbrev pub invariant-loop-given : goal.invariant-loop-given
invariant-loop-given l = l.types.items ≡ builtins ++ filter_map (type_def_in (seen l.names.declarations.now)) (seen (take l.given-index l.defs))
