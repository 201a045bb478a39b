use Rattle.std.proofs.Common.{◌≡◌, ◌++◌, map, drop}
use Rattle.isle_operand_names.specs.Names.{fields_names}
use Rattle.isle_operand_names.proofs.names.push_fields.Given as goal

abbrev pub invariant-loop-field : goal.invariant-loop-field
invariant-loop-field l = map (λ x. x.now) l.names.items ++ fields_names (drop l.field-index l.fields) ≡ map (λ x. x.now) l.fn.names.items ++ fields_names l.fields
