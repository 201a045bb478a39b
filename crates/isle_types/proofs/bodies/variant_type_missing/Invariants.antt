use Rattle.std.proofs.Common.{◌≡◌, ℕ, List, not}
use Rattle.std.specs.Prelude.{drop}
use Rattle.std.specs.List.{list_any}
use Rattle.isle_ast.specs.Tree.{Def}
use Rattle.isle_ast.specs.declared.tree.AstVariant.{AstVariant}
use Rattle.isle_types.specs.Bodies.{field_types}
use Rattle.isle_types.specs.TypeNames.{is_type}
use Rattle.isle_types.specs.Gathered.{AreKnown}
use Rattle.isle_types.proofs.bodies.variant_type_missing.Given as goal

abbrev pub invariant-loop-variant : goal.invariant-loop-variant
invariant-loop-variant l =
    (defs : List Def) → AreKnown defs l.known → list_any (λ (v : AstVariant). list_any (λ (name : List ℕ). not (is_type defs name)) (field_types v.fields)) l.variants
    ≡ list_any (λ (v : AstVariant). list_any (λ (name : List ℕ). not (is_type defs name)) (field_types v.fields)) (drop l.variant-index l.variants)
