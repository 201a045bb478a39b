use Rattle.std.proofs.Common.{◌≡◌, List}
use Rattle.std.specs.Prelude.{drop}
use Rattle.isle_ast.specs.Tree.{Def}
use Rattle.isle_types.specs.Gathered.{IsBefore}
use Rattle.isle_terms.specs.TermPass.{types_named}
use Rattle.isle_terms.proofs.TermSteps.{before}
use Rattle.isle_terms.proofs.named_types.plain_types.Given as goal

abbrev pub invariant-loop-name : goal.invariant-loop-name
invariant-loop-name l = (defs : List Def) → IsBefore defs l.before → types_named defs l.names ≡ before l.types.items (types_named defs (drop l.name-index l.names))
