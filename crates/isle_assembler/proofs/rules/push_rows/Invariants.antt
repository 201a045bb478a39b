use Rattle.std.proofs.Common.{◌≡◌, ◌++◌, take, string_bytes}
use Rattle.std.specs.List.{flat_map}
use Rattle.isle_assembler.specs.RuleTexts.{row_text}
use Rattle.isle_assembler.proofs.rules.push_rows.Given as goal

abbrev pub invariant-loop-inst : goal.invariant-loop-inst
invariant-loop-inst l = string_bytes l.text ≡ string_bytes l.fn.text ++ flat_map row_text (take l.inst-index l.insts)
