use Rattle.std.proofs.Common.{◌≡◌, ◌++◌, take, string_bytes}
use Rattle.std.specs.List.{flat_map}
use Rattle.isle_settings.specs.TargetLines.{spaced}
use Rattle.isle_settings.proofs.text.push_values.Given as goal

abbrev pub invariant-loop-value : goal.invariant-loop-value
invariant-loop-value l = string_bytes l.text ≡ string_bytes l.fn.text ++ flat_map spaced (take l.value-index l.values)
