use Rattle.std.proofs.Common.{◌≡◌, List, map}
use Rattle.std.specs.Prelude.{drop}
use Rattle.isle_ast.specs.Tree.{Def}
use Rattle.isle_types.specs.Gathered.{IsBefore}
use Rattle.isle_terms.specs.TermPass.{types_named}
use Rattle.isle_terms.proofs.TermSteps.{before}
use Rattle.isle_terms.proofs.named_types.field_types.Given as goal

abbrev pub invariant-loop-field : goal.invariant-loop-field
invariant-loop-field l = (defs : List Def) → IsBefore defs l.before → types_named defs (map (λ f. f.1) l.fields) ≡ before l.types.items (types_named defs (map (λ f. f.1) (drop l.field-index l.fields)))
