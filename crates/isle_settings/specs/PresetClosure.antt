-- Which flags a preset enables: its own, and those that the earlier presets enable which it names.
use Rattle.std.specs.Prelude.{ℕ, ◌<◌, ◌↔◌, List, length, IsSomeAnd, slice_get}
use Rattle.std.specs.List.{Contains, AllPairs}
use Rattle.isle_settings.specs.declared.group.PresetItem.{PresetItem}
use Rattle.isle_settings.specs.declared.group.PresetItem.TheVariants as item
use Rattle.isle_settings.specs.declared.group.Preset.{Preset}
use Rattle.isle_settings.specs.declared.group.SettingGroup.{SettingGroup}

-- the preset at a place has this item
abbrev pub HasItem : List Preset → (place : ℕ) → PresetItem → Type 0
HasItem presets place it = IsSomeAnd (slice_get presets place) (λ (p : Preset). Contains p.items it)

-- the preset at a place reaches a flag: it has that itself, or a preset that it names reaches it
pub data Reaches (presets : List Preset) : (place flag : ℕ) → Type 0 where
  of_its_own : {place flag : ℕ} → HasItem presets place (item.Flag flag) → Reaches presets place flag
  through : {place named flag : ℕ} → HasItem presets place (item.Preset named) → Reaches presets named flag → Reaches presets place flag

-- an item of the preset at a place is one of so many settings, or an earlier preset
abbrev pub IsLawfulItem : (settings place : ℕ) → PresetItem → Type 0
IsLawfulItem settings place (item.Flag flag) = flag < settings
IsLawfulItem settings place (item.Preset named) = named < place

-- each item of each preset is one of the group's settings, or a preset before it
pub record IsWellFormed (group : SettingGroup) : Type 0 where
  pub items : (place : ℕ) (it : PresetItem) → HasItem group.presets place it → IsLawfulItem (length group.settings) place it

-- the places of the flags that a preset reaches: all of them, and no others, ascending, each once
pub record AreReached (group : SettingGroup) (place : ℕ) (flags : List ℕ) : Type 0 where
  pub exact : (flag : ℕ) → Contains flags flag ↔ Reaches group.presets place flag
  pub ascending : AllPairs (λ (a b : ℕ). a < b) flags
