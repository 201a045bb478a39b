use Rattle.std.proofs.Common.{◌≡◌, ◌++◌, drop}
use Rattle.isle_core.specs.RuleViews.{environment}
use Rattle.isle_simulation.specs.TraitFns.{trait_fns_in}
use Rattle.isle_operands.proofs.externals.trait_fns.Given as goal

abbrev pub invariant-loop-term : goal.invariant-loop-term
invariant-loop-term l = l.fns.items ++ trait_fns_in (environment l.typeenv l.termenv) (drop l.term-index l.term-items) ≡ trait_fns_in (environment l.typeenv l.termenv) l.term-items
