use Rattle.std.proofs.Common.{drop}
use Rattle.isle_tree.specs.Terms.{FindsTerms}
use Rattle.isle_tree.proofs.terms.by_term.Given as goal

abbrev pub invariant-loop-index : goal.invariant-loop-index
invariant-loop-index l = FindsTerms (drop l.index l.fn.fns) l.found
