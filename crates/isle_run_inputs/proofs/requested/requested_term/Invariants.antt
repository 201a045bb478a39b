use Rattle.std.proofs.Common.{◌≡◌}
use Rattle.isle_core.specs.RuleViews.{environment}
use Rattle.isle_run_inputs.specs.Requested.{requested_term}
use Rattle.isle_run_inputs.proofs.FirstNamed.{first_named}
use Rattle.isle_run_inputs.proofs.requested.requested_term.Given as goal

abbrev pub invariant-loop-listed : goal.invariant-loop-listed
invariant-loop-listed l =
    first_named (environment l.fn.typeenv l.fn.termenv) l.fn.name l.listed-index l.fn.terms ≡ requested_term (environment l.fn.typeenv l.fn.termenv) l.fn.name
