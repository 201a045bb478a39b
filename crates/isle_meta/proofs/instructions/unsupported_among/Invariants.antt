use Rattle.isle_meta.proofs.InstructionLaws.{InstructionsFrom}
use Rattle.isle_meta.proofs.instructions.unsupported_among.Given as goal

abbrev pub invariant-loop-instruction : goal.invariant-loop-instruction
invariant-loop-instruction l = InstructionsFrom l.formats l.instructions l.instruction-index l.names l.camels
