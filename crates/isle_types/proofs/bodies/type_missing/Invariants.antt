use Rattle.std.proofs.Common.{◌≡◌, ℕ, List, not}
use Rattle.std.specs.Prelude.{drop}
use Rattle.std.specs.List.{list_any}
use Rattle.isle_ast.specs.Tree.{Def}
use Rattle.isle_types.specs.TypeNames.{is_type}
use Rattle.isle_types.specs.Gathered.{AreKnown}
use Rattle.isle_types.proofs.bodies.type_missing.Given as goal

abbrev pub invariant-loop-ty : goal.invariant-loop-ty
invariant-loop-ty l =
    (defs : List Def) → AreKnown defs l.known → list_any (λ (name : List ℕ). not (is_type defs name)) l.types ≡ list_any (λ (name : List ℕ). not (is_type defs name)) (drop l.ty-index l.types)
