-- Places that are marked, and the marks that the items of a preset set.
use Rattle.std.specs.Prelude.{◌≡◌, ◌<◌, ℕ, ◌+◌, List, [], ◌∷◌, Bool, true, Some, set, slice_get, if◌then◌else◌}
use Rattle.isle_settings.specs.PresetClosure.{Reaches}
use Rattle.isle_settings.specs.declared.group.Preset.{Preset}
use Rattle.isle_settings.specs.declared.group.PresetItem.{PresetItem}
use Rattle.isle_settings.specs.declared.group.PresetItem.TheVariants as item

-- a place is marked
abbrev pub IsMarked : List Bool → ℕ → Type 0
IsMarked marks place = slice_get marks place ≡ Some true

-- the marked places, where the first mark is that of this place
abbrev pub marked_from : ℕ → List Bool → List ℕ
marked_from place [] = []
marked_from place (mark ∷ marks) = if mark then place ∷ marked_from (place + 1) marks else marked_from (place + 1) marks

-- marks of flags, with those of the flags among items
abbrev pub with_flags : List PresetItem → List Bool → List Bool
with_flags [] marks = marks
with_flags (item.Flag flag ∷ items) marks = with_flags items (set marks flag true)
with_flags (item.Preset named ∷ items) marks = with_flags items marks

-- marks of presets, with those of the presets among items
abbrev pub with_presets : List PresetItem → List Bool → List Bool
with_presets [] marks = marks
with_presets (item.Flag flag ∷ items) marks = with_presets items marks
with_presets (item.Preset named ∷ items) marks = with_presets items (set marks named true)

-- an item has a mark, of so many flags and presets
abbrev pub HasMark : (flags presets : ℕ) → PresetItem → Type 0
HasMark flags presets (item.Flag flag) = flag < flags
HasMark flags presets (item.Preset named) = named < presets

-- a marked preset before a place reaches the flag
abbrev pub IsPending : List Preset → List Bool → (place flag : ℕ) → Type 0
IsPending presets marks place flag = (named : ℕ) × (named < place) × IsMarked marks named × Reaches presets named flag
