use Rattle.std.proofs.Common.{◌∙◌, sym, ap, subst}
use Rattle.isle_core.specs.declared.types.Fields.TheVariants as shape
use Rattle.isle_lawful_names.specs.Claims.{field_claims}
use Rattle.isle_lawful_names.specs.Judges.{Judges}
use Rattle.isle_lawful_names.proofs.types.in_fields.Goals as goal

pub returns-in-Struct : goal.returns-in-Struct
returns-in-Struct c = λ env. subst (λ fs. Judges env (field_claims c.args.types.now fs) c.in_named.result) (ap shape.Struct c.as_slice.ensures ∙ sym c.in-Struct.is) (c.in_named.ensures env)
