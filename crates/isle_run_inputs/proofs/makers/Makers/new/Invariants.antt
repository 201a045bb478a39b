use Rattle.std.proofs.Common.{◌≡◌, ◌++◌, map, drop}
use Rattle.isle_core.specs.declared.types.TypeDef.{TypeDef}
use Rattle.isle_run_inputs.proofs.makers.Makers.new.Given as goal

abbrev pub invariant-loop-def : goal.invariant-loop-def
invariant-loop-def l = l.types.items ++ map (λ (d : TypeDef). (l.fn.typeenv, d)) (drop l.def-index l.fn.typeenv.types) ≡ map (λ (d : TypeDef). (l.fn.typeenv, d)) l.fn.typeenv.types
