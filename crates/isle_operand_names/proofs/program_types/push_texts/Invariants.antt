use Rattle.std.proofs.Common.{◌≡◌, ◌++◌, map, drop}
use Rattle.isle_operand_names.proofs.program_types.push_texts.Given as goal

abbrev pub invariant-loop-ty : goal.invariant-loop-ty
invariant-loop-ty l = map (λ x. x.now) l.names.items ++ drop l.ty-index l.tys ≡ map (λ x. x.now) l.fn.names.items ++ l.tys
