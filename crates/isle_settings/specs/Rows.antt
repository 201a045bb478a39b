-- What a table of the code says.
use Rattle.std.specs.Prelude.{ℕ, List, map}
use denote.Ref.{Bor}
use Rattle.isle_settings.specs.Settings.{choice, flag}
use Rattle.isle_settings.specs.declared.group.Preset.{Preset}
use Rattle.isle_settings.specs.declared.group.Setting.{Setting}
use Rattle.isle_settings.specs.declared.group.SettingGroup.{SettingGroup}
use Rattle.isle_settings.specs.declared.rows.GroupRow.{GroupRow}
use Rattle.isle_settings.specs.declared.rows.PresetRow.{PresetRow}
use Rattle.isle_settings.specs.declared.rows.SettingRow.{SettingRow}
use Rattle.isle_settings.specs.declared.rows.SettingRow.TheVariants as row

-- borrowed texts
abbrev pub texts_of : List (Bor (List ℕ)) → List (List ℕ)
texts_of names = map (λ (name : Bor (List ℕ)). name.now) names

-- a setting of the table
abbrev pub setting_of : SettingRow → Setting
setting_of (row.Flag name value) = flag value name.now
setting_of (row.Choice name values) = choice name.now (texts_of values.now)

-- a preset of the table
abbrev pub preset_of : PresetRow → Preset
preset_of r = record { name = r.name.now; items = r.items.now }

-- the group of the table
abbrev pub group_of : GroupRow → SettingGroup
group_of g = record { name = g.name.now; settings = map setting_of g.settings.now; presets = map preset_of g.presets.now }
