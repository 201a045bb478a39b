use Rattle.std.proofs.Common.{◌≡◌, ◌++◌, take, string_bytes}
use Rattle.std.specs.Prelude.{filter}
use Rattle.std.specs.List.{flat_map}
use Rattle.isle_assembler_rows.specs.Operands.{is_raw}
use Rattle.isle_assembler.specs.RuleTexts.{handed_text}
use Rattle.isle_assembler.proofs.signature.push_each_handed.Given as goal

abbrev pub invariant-loop-operand : goal.invariant-loop-operand
invariant-loop-operand l = string_bytes l.text ≡ string_bytes l.fn.text ++ flat_map (handed_text l.c) (filter is_raw (take l.operand-index l.operands))
