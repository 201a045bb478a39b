-- The text of a group of settings, line by line.
use Rattle.std.specs.Prelude.{◌≡◌, ℕ, ◌+◌, List, [], ◌∷◌, ◌++◌, Bool, true, false, codes, unwrap_or, option_map, slice_get}
use Rattle.std.specs.List.{flat_map}
use Rattle.isle_settings.specs.PresetClosure.{AreReached}
use Rattle.isle_settings.specs.declared.group.Preset.{Preset}
use Rattle.isle_settings.specs.declared.group.Setting.{Setting}
use Rattle.isle_settings.specs.declared.group.SettingGroup.{SettingGroup}
use Rattle.isle_settings.specs.declared.group.SettingKind.{SettingKind}
use Rattle.isle_settings.specs.declared.group.SettingKind.TheVariants as kind

-- how a line ends
abbrev pub line_end : List ℕ
line_end = codes "\n"

-- a word behind another one
abbrev pub spaced : List ℕ → List ℕ
spaced word = codes " " ++ word

-- a truth
abbrev pub truth : Bool → List ℕ
truth true = codes "true"
truth false = codes "false"

-- the line of a setting: a flag with what it is, or a choice with its values
abbrev pub setting_line : Setting → List ℕ
setting_line s = line_of s.name s.kind where
  line_of : List ℕ → SettingKind → List ℕ
  line_of name (kind.Bool value) = codes "flag " ++ (name ++ (spaced (truth value) ++ line_end))
  line_of name (kind.Enum values) = codes "enum " ++ (name ++ (flat_map spaced values ++ line_end))

-- the name of the setting at a place
abbrev pub name_at : List Setting → ℕ → List ℕ
name_at settings place = unwrap_or (option_map (λ (s : Setting). s.name) (slice_get settings place)) []

-- that name behind a blank
abbrev pub spaced_name : List Setting → ℕ → List ℕ
spaced_name settings place = spaced (name_at settings place)

-- the line of a preset that reaches these flags
abbrev pub preset_line : List Setting → Preset → (flags : List ℕ) → List ℕ
preset_line settings p flags = codes "preset " ++ (p.name ++ (flat_map (spaced_name settings) flags ++ line_end))

-- the lines of presets, the first of which stands at this place: each with the flags that it reaches
abbrev pub ArePresetLines : SettingGroup → ℕ → List Preset → List ℕ → Type 0
ArePresetLines group place [] text = text ≡ []
ArePresetLines group place (p ∷ ps) text =
    (flags : List ℕ) × (rest : List ℕ) × AreReached group place flags × (text ≡ preset_line group.settings p flags ++ rest)
    × ArePresetLines group (place + 1) ps rest

-- the text of a group: a line of its name, and lines of its settings and of its presets
pub record IsGroupText (group : SettingGroup) (text : List ℕ) : Type 0 where
  pub presets : List ℕ
  pub lines : ArePresetLines group 0 group.presets presets
  pub whole : text ≡ group.name ++ (line_end ++ (flat_map setting_line group.settings ++ presets))
