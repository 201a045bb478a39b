use Rattle.std.proofs.Common.{◌≡◌, map, take}
use Rattle.isle_settings.specs.Rows.{preset_of}
use Rattle.isle_settings.proofs.building.presets_in.Given as goal

abbrev pub invariant-loop-row : goal.invariant-loop-row
invariant-loop-row l = l.presets.items ≡ map preset_of (take l.row-index l.rows)
