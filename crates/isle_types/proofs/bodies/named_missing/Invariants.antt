use Rattle.std.proofs.Common.{◌≡◌, ℕ, List, map, not}
use Rattle.std.specs.Prelude.{drop}
use Rattle.std.specs.List.{list_any}
use Rattle.isle_ast.specs.Tree.{Def}
use Rattle.isle_types.specs.TypeNames.{is_type}
use Rattle.isle_types.specs.Gathered.{AreKnown}
use Rattle.isle_types.proofs.bodies.named_missing.Given as goal

abbrev pub invariant-loop-field : goal.invariant-loop-field
invariant-loop-field l =
    (defs : List Def) → AreKnown defs l.known → list_any (λ (name : List ℕ). not (is_type defs name)) (map (λ (f : List ℕ × List ℕ). f.1) l.fields)
    ≡ list_any (λ (name : List ℕ). not (is_type defs name)) (map (λ (f : List ℕ × List ℕ). f.1) (drop l.field-index l.fields))
