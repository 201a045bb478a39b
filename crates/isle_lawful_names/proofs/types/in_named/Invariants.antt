use Rattle.std.proofs.Common.{drop}
use Rattle.isle_core.specs.declared.types.Fields.TheVariants as shape
use Rattle.isle_core.specs.Rule.{Environment}
use Rattle.isle_lawful_names.specs.Claims.{field_claims}
use Rattle.isle_lawful_names.proofs.FoundLaws.{Leads}
use Rattle.isle_lawful_names.proofs.types.in_named.Given as goal

abbrev pub invariant-loop-field : goal.invariant-loop-field
invariant-loop-field l = (env : Environment) → Leads env (field_claims l.types (shape.Struct (drop l.field-index l.fields))) (field_claims l.types (shape.Struct l.fields))
