use Rattle.std.proofs.Common.{◌≡◌, take, map}
use Rattle.isle_core.specs.RuleViews.{environment}
use Rattle.isle_simulation.specs.TypeTexts.{type_text}
use Rattle.isle_operands.proofs.signature.ty_names.Given as goal

abbrev pub invariant-loop-ty : goal.invariant-loop-ty
invariant-loop-ty l = l.names.items ≡ map (type_text (environment l.typeenv l.termenv)) (take l.ty-index l.tys)
