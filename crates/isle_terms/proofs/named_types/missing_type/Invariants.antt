use Rattle.std.proofs.Common.{◌≡◌, ℕ, List}
use Rattle.std.specs.Prelude.{drop, is_some}
use Rattle.std.specs.List.{list_all}
use Rattle.isle_ast.specs.Tree.{Def}
use Rattle.isle_types.specs.Gathered.{IsBefore}
use Rattle.isle_terms.specs.TypeNames.{type_named}
use Rattle.isle_terms.proofs.named_types.missing_type.Given as goal

abbrev pub invariant-loop-name : goal.invariant-loop-name
invariant-loop-name l = (defs : List Def) → IsBefore defs l.before → list_all (λ (n : List ℕ). is_some (type_named defs n)) l.names ≡ list_all (λ (n : List ℕ). is_some (type_named defs n)) (drop l.name-index l.names)
