-- Groups of settings as data: flags and presets, written as words.
use Rattle.std.specs.Prelude.{ℕ, List, [], ◌∷◌, ◌++◌, map, length, Bool, ◌==◌, if◌then◌else◌, unwrap_or, position, codes}
use Rattle.std.specs.Str.{bytes_eq}
use Rattle.isle_settings.specs.declared.group.PresetItem.{PresetItem}
use Rattle.isle_settings.specs.declared.group.PresetItem.TheVariants as item
use Rattle.isle_settings.specs.declared.group.Preset.{Preset}
use Rattle.isle_settings.specs.declared.group.Setting.{Setting}
use Rattle.isle_settings.specs.declared.group.SettingGroup.{SettingGroup}
use Rattle.isle_settings.specs.declared.group.SettingKind.TheVariants as kind

-- ---- words

-- parts with a byte in front of the first
abbrev pub begun : ℕ → List (List ℕ) → List (List ℕ)
begun b [] = (b ∷ []) ∷ []
begun b (part ∷ parts) = (b ∷ part) ∷ parts

-- what stands between the blanks of a text
abbrev pub between_blanks : List ℕ → List (List ℕ)
between_blanks [] = [] ∷ []
between_blanks (b ∷ text) = if b == 32 then [] ∷ between_blanks text else begun b (between_blanks text)

-- the words of a text, between which single blanks stand; an empty text has none
abbrev pub words : List ℕ → List (List ℕ)
words [] = []
words (b ∷ text) = between_blanks (b ∷ text)

-- ---- settings

-- a flag that is so, or not, where nothing else is said
abbrev pub flag : Bool → List ℕ → Setting
flag value name = record { name = name; kind = kind.Bool value }

-- a setting that has one of these values
abbrev pub choice : List ℕ → List (List ℕ) → Setting
choice name values = record { name = name; kind = kind.Enum values }

-- the name that a word stands for: `*` is `has_`
abbrev pub flag_name : List ℕ → List ℕ
flag_name [] = []
flag_name (b ∷ name) = if b == 42 then codes "has_" ++ name else b ∷ name

-- the flags of these words, in order, each of them so or each not
abbrev pub flags : Bool → List ℕ → List Setting
flags value text = map (λ word. flag value (flag_name word)) (words text)

-- ---- presets

-- a preset by words: its name, and what it enables. A word that begins with `*` is a flag, each other one a preset before it
abbrev pub Row : Type 0
Row = List ℕ × List (List ℕ)

-- a preset of this name, which enables what the words of a text say
abbrev pub preset : (name text : List ℕ) → Row
preset name text = (name, words text)

-- the first place of a name among names, and past their end if it isn't there
abbrev pub place_of : List ℕ → List (List ℕ) → ℕ
place_of name names = unwrap_or (position (bytes_eq name) names) (length names)

-- what a word says, where the flags and the presets have these names
abbrev pub item_of : (flags presets : List (List ℕ)) → List ℕ → PresetItem
item_of flags presets [] = item.Preset (length presets)
item_of flags presets (b ∷ name) = if b == 42 then item.Flag (place_of (codes "has_" ++ name) flags) else item.Preset (place_of (b ∷ name) presets)

-- a preset with its items by their places
abbrev pub preset_of : (flags presets : List (List ℕ)) → Row → Preset
preset_of flags presets row = record { name = row.0; items = map (item_of flags presets) row.1 }

-- the names of settings
abbrev pub setting_names : List Setting → List (List ℕ)
setting_names settings = map (λ (s : Setting). s.name) settings

-- the names of presets
abbrev pub row_names : List Row → List (List ℕ)
row_names rows = map (λ (row : Row). row.0) rows

-- a group of this name with these settings and presets
abbrev pub group : List ℕ → List Setting → List Row → SettingGroup
group name settings rows = record {
  name = name;
  settings = settings;
  presets = map (preset_of (setting_names settings) (row_names rows)) rows;
}
