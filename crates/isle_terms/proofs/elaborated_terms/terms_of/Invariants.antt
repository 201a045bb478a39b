use Rattle.std.proofs.Common.{◌≡◌, map}
use Rattle.std.specs.Prelude.{drop}
use Rattle.isle_ast.specs.Views.{defs}
use Rattle.isle_declarations.specs.Terms.{terms}
use Rattle.isle_declarations.specs.TermViews.{term_def}
use Rattle.isle_terms.specs.TermPass.{terms_pass}
use Rattle.isle_terms.specs.Whole.{whole}
use Rattle.isle_terms.proofs.TermSteps.{before}
use Rattle.isle_terms.proofs.elaborated_terms.terms_of.Given as goal

abbrev pub invariant-loop-given : goal.invariant-loop-given
invariant-loop-given l = terms_pass (whole l.declarations) (terms (defs l.declarations)) ≡ before l.found.items (terms_pass (whole l.declarations) (map term_def (drop l.given-index l.given-items)))
