use Rattle.std.proofs.Common.{◌≡◌, take, map}
use Rattle.isle_core.specs.RuleViews.{environment}
use Rattle.isle_simulation.specs.TypeTexts.{parameter}
use Rattle.isle_operands.proofs.signature.params.Given as goal

abbrev pub invariant-loop-ty : goal.invariant-loop-ty
invariant-loop-ty l = l.params.items ≡ map (parameter (environment l.typeenv l.termenv)) (take l.ty-index l.tys)
