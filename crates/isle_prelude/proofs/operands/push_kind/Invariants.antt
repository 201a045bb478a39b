use Rattle.std.proofs.Common.{◌≡◌, ◌++◌, map, drop, codes, string_bytes}
use Rattle.std.specs.Prelude.{filter}
use Rattle.isle_meta.specs.declared.clif.ClifOperand.{ClifOperand}
use Rattle.isle_prelude.specs.Kinds.{is_of}
use Rattle.isle_prelude.specs.TermPieces.{kind_piece}
use Rattle.isle_writing.specs.Text.{spaced}
use Rattle.isle_prelude.proofs.operands.push_kind.Given as goal

abbrev pub invariant-loop-operand : goal.invariant-loop-operand
invariant-loop-operand l = string_bytes l.text ++ spaced (codes " ") (map (λ (o : ClifOperand). o.name) (filter (λ (o : ClifOperand). is_of l.kind o.class) (drop l.operand-index l.instruction.operands_in))) ≡ string_bytes l.initial.text ++ kind_piece (is_of l.kind) l.instruction
