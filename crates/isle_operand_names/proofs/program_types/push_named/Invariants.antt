use Rattle.std.proofs.Common.{◌≡◌, ◌++◌, map, drop}
use Rattle.isle_operand_names.specs.Occurring.{second_names}
use Rattle.isle_operand_names.proofs.program_types.push_named.Given as goal

abbrev pub invariant-loop-field : goal.invariant-loop-field
invariant-loop-field l = map (λ x. x.now) l.names.items ++ second_names (drop l.field-index l.fields) ≡ map (λ x. x.now) l.fn.names.items ++ second_names l.fields
