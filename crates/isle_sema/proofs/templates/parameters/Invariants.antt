use Rattle.std.proofs.Common.{◌≡◌, map, Some}
use Rattle.isle_terms.specs.Scope.{no_variables}
use Rattle.isle_sema.specs.Templates.{params_met}
use Rattle.isle_sema.proofs.TemplateSteps.{params_left}
use Rattle.isle_sema.proofs.templates.parameters.Given as goal

abbrev pub invariant-loop-place : goal.invariant-loop-place
invariant-loop-place l = params_met no_variables l.params (map Some l.types) ≡ params_left l.params l.types l.place l.vars
