use Rattle.std.proofs.Common.{◌≡◌, ◌++◌, map}
use Rattle.std.specs.Prelude.{drop}
use Rattle.isle_declarations.specs.TermViews.{term_def}
use Rattle.isle_terms.specs.Whole.{whole}
use Rattle.isle_sema.specs.Templates.{template_for, templates}
use Rattle.isle_sema.proofs.TemplateSteps.{trees}
use Rattle.isle_sema.proofs.templates.by_terms.Given as goal

abbrev pub invariant-loop-term : goal.invariant-loop-term
invariant-loop-term l = templates (whole l.known) ≡ trees l.found.items ++ map (template_for (whole l.known)) (map term_def (drop l.term-index l.terms))
