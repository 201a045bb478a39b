use Rattle.std.proofs.Common.{◌≡◌, ◌++◌, take, string_bytes}
use Rattle.std.specs.List.{flat_map}
use Rattle.isle_settings.specs.TargetLines.{spaced_name}
use Rattle.isle_settings.proofs.text.push_flags.Given as goal

abbrev pub invariant-loop-flag : goal.invariant-loop-flag
invariant-loop-flag l = string_bytes l.text ≡ string_bytes l.fn.text ++ flat_map (spaced_name l.settings) (take l.flag-index l.flags)
