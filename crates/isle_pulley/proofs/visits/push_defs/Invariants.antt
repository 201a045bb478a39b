use Rattle.std.proofs.Common.{◌≡◌, ◌++◌, take, string_bytes}
use Rattle.std.specs.List.{flat_map}
use Rattle.isle_pulley.specs.Visits.{def_text}
use Rattle.isle_pulley.proofs.visits.push_defs.Given as goal

abbrev pub invariant-loop-operand : goal.invariant-loop-operand
invariant-loop-operand l = string_bytes l.text ≡ string_bytes l.fn.text ++ flat_map (def_text l.in_frame) (take l.operand-index l.operands)
