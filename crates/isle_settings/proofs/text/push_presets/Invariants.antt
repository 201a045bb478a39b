use Rattle.std.proofs.Common.{◌≡◌, ◌++◌, List, ℕ, take, string_bytes}
use Rattle.isle_settings.specs.TargetLines.{ArePresetLines}
use Rattle.isle_settings.proofs.text.push_presets.Given as goal

abbrev pub invariant-loop-place : goal.invariant-loop-place
invariant-loop-place l = (lines : List ℕ) × (string_bytes l.text ≡ string_bytes l.fn.text ++ lines) × ArePresetLines l.group 0 (take l.place l.group.presets) lines
