use Rattle.std.proofs.Common.{◌≡◌, ◌++◌, take, string_bytes}
use Rattle.std.specs.Prelude.{filter}
use Rattle.isle_assembler_rows.specs.Operands.{locations}
use Rattle.isle_assembler.specs.RuleTexts.{names_text}
use Rattle.isle_assembler.specs.Signatures.{takes}
use Rattle.isle_assembler.proofs.signature.push_operands.Given as goal

abbrev pub invariant-loop-operand : goal.invariant-loop-operand
invariant-loop-operand l = string_bytes l.text ≡ string_bytes l.fn.text ++ names_text (locations (filter (takes l.signature) (take l.operand-index l.operands)))
