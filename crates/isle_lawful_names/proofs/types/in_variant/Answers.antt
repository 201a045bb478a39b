use Rattle.std.proofs.Common.{◌∷◌, [], ◌∙◌, sym}
use Rattle.isle_core.specs.Terms.{symbol_text}
use Rattle.isle_lawful_names.specs.Claims.{OfVariant, field_claims}
use Rattle.isle_lawful_names.proofs.FoundLaws.{judged_first, judged_then}
use Rattle.isle_lawful_names.proofs.types.in_variant.Goals as goal

pub returns-then-is_some : goal.returns-then-is_some
returns-then-is_some c = λ env.
    let v = c.args.variant.now in
    judged_first env (OfVariant (symbol_text c.args.types.now v.name) ∷ []) (field_claims c.args.types.now v.fields) c.variant_found-found.result (c.variant_found-found.ensures env) (sym c.is_some.ensures ∙ c.if-is_some.true)

pub returns : goal.returns
returns c = λ env.
    let v = c.args.variant.now in
    judged_then env (OfVariant (symbol_text c.args.types.now v.name) ∷ []) (field_claims c.args.types.now v.fields) c.variant_found-found.result c.in_fields.result (c.variant_found-found.ensures env) (sym c.is_some.ensures ∙ c.if-is_some.false)
    (c.in_fields.ensures env)
