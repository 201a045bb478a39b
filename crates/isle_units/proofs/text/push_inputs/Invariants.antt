use Rattle.std.proofs.Common.{◌≡◌, ◌++◌, take, string_bytes}
use Rattle.std.specs.List.{flat_map}
use Rattle.isle_units.specs.UnitLines.{input_line}
use Rattle.isle_units.proofs.text.push_inputs.Given as goal

abbrev pub invariant-loop-input : goal.invariant-loop-input
invariant-loop-input l = string_bytes l.text ≡ string_bytes l.fn.text ++ flat_map input_line (take l.input-index l.inputs)
