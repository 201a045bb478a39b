use Rattle.std.proofs.Common.{◌≡◌}
use Rattle.std.specs.Prelude.{drop}
use Rattle.std.specs.List.{list_any}
use Rattle.isle_ast.specs.declared.tree.AstVariant.{AstVariant}
use Rattle.isle_types.specs.Bodies.{fields_repeat}
use Rattle.isle_types.proofs.bodies.field_of_variant_again.Given as goal

abbrev pub invariant-loop-variant : goal.invariant-loop-variant
invariant-loop-variant l = list_any (λ (v : AstVariant). fields_repeat v.fields) l.variants ≡ list_any (λ (v : AstVariant). fields_repeat v.fields) (drop l.variant-index l.variants)
