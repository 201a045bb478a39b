use Rattle.std.proofs.Common.{◌≡◌, ◌++◌, map}
use Rattle.std.specs.Prelude.{drop}
use Rattle.isle_ast.specs.Views.{defs}
use Rattle.isle_declarations.specs.Terms.{terms}
use Rattle.isle_declarations.specs.TermViews.{term_def}
use Rattle.isle_declarations.proofs.terms.gathered.Given as goal

abbrev pub invariant-loop-index : goal.invariant-loop-index
invariant-loop-index l = terms (defs l.defs) ≡ map term_def l.found.items ++ terms (defs (drop l.index l.defs))
