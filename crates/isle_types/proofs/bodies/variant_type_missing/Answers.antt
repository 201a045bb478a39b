use Rattle.std.proofs.Common.{rules, ◌≡◌, ℕ, List, false, sym, ◌∙◌}
use Rattle.std.specs.Prelude.{is_some, not}
use Rattle.std.specs.List.{list_any}
use Rattle.isle_ast.specs.declared.tree.AstVariant.{AstVariant}
use Rattle.isle_types.specs.Bodies.{field_types}
use Rattle.isle_types.specs.TypeNames.{is_type}
use Rattle.isle_types.proofs.KnownLaws.{any_more}
use Rattle.isle_types.proofs.bodies.variant_type_missing.Goals as goal

pub loop-variant-preserved : goal.loop-variant-preserved
loop-variant-preserved c =
    λ defs known.
    let none : is_some c.field_type_missing-found.result ≡ false = search rules in
    c.loop-variant.invariant defs known
    ∙ any_more (λ (v : AstVariant). list_any (λ (name : List ℕ). not (is_type defs name)) (field_types v.fields)) c.args.variants.now c.loop-variant.variant-index c.variant-item.result _ c.loop-variant-test.true c.variant-item.is
    (sym (c.field_type_missing-found.ensures defs known) ∙ none)
