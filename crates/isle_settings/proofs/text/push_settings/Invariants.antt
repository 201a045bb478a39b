use Rattle.std.proofs.Common.{◌≡◌, ◌++◌, take, string_bytes}
use Rattle.std.specs.List.{flat_map}
use Rattle.isle_settings.specs.TargetLines.{setting_line}
use Rattle.isle_settings.proofs.text.push_settings.Given as goal

abbrev pub invariant-loop-setting : goal.invariant-loop-setting
invariant-loop-setting l = string_bytes l.text ≡ string_bytes l.fn.text ++ flat_map setting_line (take l.setting-index l.settings)
