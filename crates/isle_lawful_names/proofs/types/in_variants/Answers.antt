use Rattle.std.proofs.Common.{◌∙◌, sym}
use Rattle.std.specs.Prelude.{flat_map}
use Rattle.isle_lawful_names.specs.Claims.{variant_claims}
use Rattle.isle_lawful_names.proofs.FoundLaws.{leads_itself, items_on, items_out, items_end}
use Rattle.isle_lawful_names.proofs.types.in_variants.Goals as goal

pub loop-variant-init : goal.loop-variant-init
loop-variant-init c = λ env. leads_itself env (flat_map (variant_claims c.args.types.now) c.args.variants.now)

pub loop-variant-preserved : goal.loop-variant-preserved
loop-variant-preserved c = λ env.
    items_on env (variant_claims c.args.types.now) c.args.variants.now c.loop-variant.variant-index c.variant-item.result c.in_variant-found.result c.loop-variant-test.true c.variant-item.is (c.in_variant-found.ensures env)
    (sym c.is_some.ensures ∙ c.if-is_some.false) (c.loop-variant.invariant env)

pub returns-then-is_some : goal.returns-then-is_some
returns-then-is_some c = λ env.
    items_out env (variant_claims c.args.types.now) c.args.variants.now c.loop-variant.variant-index c.variant-item.result c.in_variant-found.result c.loop-variant-test.true c.variant-item.is (c.in_variant-found.ensures env)
    (sym c.is_some.ensures ∙ c.if-is_some.true) (c.loop-variant.invariant env)

pub returns : goal.returns
returns c = λ env. items_end env (variant_claims c.args.types.now) c.args.variants.now c.loop-variant.variant-index c.loop-variant-test.false (c.loop-variant.invariant env)
