use Rattle.std.proofs.Common.{sym, subst}
use Rattle.std.specs.Prelude.{flat_map}
use Rattle.isle_lawful_names.specs.Claims.{variant_claims, part_claims}
use Rattle.isle_lawful_names.specs.Judges.{Judges}
use Rattle.isle_lawful_names.proofs.types.in_parts.Goals as goal

pub returns-in-Enum : goal.returns-in-Enum
returns-in-Enum c = λ env.
    subst (λ d. Judges env (part_claims c.args.types.now d) c.in_variants.result) (sym c.in-Enum.is)
    (subst (λ vs. Judges env (flat_map (variant_claims c.args.types.now) vs) c.in_variants.result) c.as_slice.ensures (c.in_variants.ensures env))

pub returns-in-Struct : goal.returns-in-Struct
returns-in-Struct c = λ env. subst (λ d. Judges env (part_claims c.args.types.now d) c.in_fields.result) (sym c.in-Struct.is) (c.in_fields.ensures env)
