use Rattle.std.proofs.Common.{◌≡◌, ◌++◌, take, string_bytes}
use Rattle.std.specs.List.{flat_map}
use Rattle.isle_units.specs.UnitLines.{unit_text}
use Rattle.isle_units.proofs.text.push_units.Given as goal

abbrev pub invariant-loop-unit : goal.invariant-loop-unit
invariant-loop-unit l = string_bytes l.text ≡ string_bytes l.fn.text ++ flat_map unit_text (take l.unit-index l.units)
