use Rattle.std.proofs.Common.{◌≡◌, map, take}
use Rattle.isle_ast.specs.Views.{defs as seen}
use Rattle.isle_types.specs.TypeEnvironment.{field_in}
use Rattle.isle_types.proofs.type_environment.named_fields.Given as goal

abbrev pub invariant-loop-field : goal.invariant-loop-field
invariant-loop-field l = l.fields.items ≡ map (field_in (seen l.names.declarations.now)) (take l.field-index l.given)
