use Rattle.std.proofs.Common.{◌≡◌, map, take}
use Rattle.isle_ast.specs.declared.tree.AstVariant.{AstVariant}
use Rattle.isle_declarations.specs.DeclaredTypes.{variant_term}
use Rattle.isle_declarations.proofs.made.variant_terms.Given as goal

abbrev pub invariant-loop-variant : goal.invariant-loop-variant
invariant-loop-variant l = l.terms.items ≡ map (λ (v : AstVariant). variant_term l.name v.name) (take l.variant-index l.variants)
