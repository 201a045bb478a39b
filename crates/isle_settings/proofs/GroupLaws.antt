-- Each group is well formed: its presets name settings that are there, and presets before them.
use Rattle.std.proofs.Common.{◌≡◌, ⊎_elim, ℕ, zero, suc, ◌+◌, List, [], ◌∷◌, Bool, true, false, length, Result, Ok, Err, refl, ◌∙◌, subst, arith}
use Rattle.std.specs.Prelude.{◌&&◌, Contains, IfOk, nat_lt}
use Rattle.std.proofs.lemmas.Bool.{ltb-true}
use Rattle.isle_core.proofs.Contained.{contained_cases, none_contained}
use Rattle.isle_outside.specs.declared.errors.OutOfMemory.{OutOfMemory}
use Rattle.isle_settings.specs.Arm64.{arm64}
use Rattle.isle_settings.specs.Groups.{settings_of}
use Rattle.isle_settings.specs.PresetClosure.{HasItem, IsLawfulItem, IsWellFormed}
use Rattle.isle_settings.specs.Pulley.{pulley}
use Rattle.isle_settings.specs.Riscv64.{riscv64}
use Rattle.isle_settings.specs.S390x.{s390x}
use Rattle.isle_settings.specs.X86.{x86}
use Rattle.isle_settings.specs.declared.group.Preset.{Preset}
use Rattle.isle_settings.specs.declared.group.PresetItem.{PresetItem}
use Rattle.isle_settings.specs.declared.group.PresetItem.TheVariants as item
use Rattle.isle_settings.specs.declared.group.SettingGroup.{SettingGroup}
use Rattle.isle_settings.specs.declared.isa.Isa.{Isa}
use Rattle.isle_settings.specs.declared.isa.Isa.TheVariants as isa

-- ---- a test of it

-- whether an item of the preset at a place is lawful
abbrev lawful_item : (settings place : ℕ) → PresetItem → Bool
lawful_item settings place (item.Flag flag) = nat_lt flag settings
lawful_item settings place (item.Preset named) = nat_lt named place

-- whether items are
abbrev lawful_items : (settings place : ℕ) → List PresetItem → Bool
lawful_items settings place [] = true
lawful_items settings place (it ∷ items) = lawful_item settings place it && lawful_items settings place items

-- whether those of presets are, the first of which stands at a place
abbrev lawful_presets : (settings place : ℕ) → List Preset → Bool
lawful_presets settings place [] = true
lawful_presets settings place (p ∷ presets) = lawful_items settings place p.items && lawful_presets settings (place + 1) presets

both : (a b : Bool) → a && b ≡ true → (a ≡ true) × (b ≡ true)
both true true e = (refl, refl)
both true false e = absurd cc
both false b e = absurd cc

item_passes : (settings place : ℕ) (it : PresetItem) → lawful_item settings place it ≡ true → IsLawfulItem settings place it
item_passes settings place (item.Flag flag) e = ltb-true flag settings e
item_passes settings place (item.Preset named) e = ltb-true named place e

items_pass : (settings place : ℕ) (items : List PresetItem) → lawful_items settings place items ≡ true → (it : PresetItem) → Contains items it → IsLawfulItem settings place it
items_pass settings place [] e it c = absurd (none_contained it c)
items_pass settings place (first ∷ items) e it c =
    let h = both (lawful_item settings place first) (lawful_items settings place items) e in
    ⊎_elim (λ (same : first ≡ it). subst (λ x. IsLawfulItem settings place x) same (item_passes settings place first h.0))
    (λ (d : Contains items it). items_pass settings place items h.1 it d) (contained_cases first items it c)

presets_pass : (settings place : ℕ) (presets : List Preset) → lawful_presets settings place presets ≡ true
    → (k n : ℕ) → n ≡ place + k → (it : PresetItem) → HasItem presets k it → IsLawfulItem settings n it
presets_pass settings place [] e k n same it h = absurd h
presets_pass settings place (p ∷ presets) e zero n same it h =
    let at : place ≡ n = omega (arith, same) in subst (λ m. IsLawfulItem settings m it) at (items_pass settings place p.items (both (lawful_items settings place p.items) (lawful_presets settings (place + 1) presets) e).0 it h)
presets_pass settings place (p ∷ presets) e (suc k) n same it h = presets_pass settings (place + 1) presets (both (lawful_items settings place p.items) (lawful_presets settings (place + 1) presets) e).1 k n (omega (arith, same)) it h

passes : (group : SettingGroup) → lawful_presets (length group.settings) 0 group.presets ≡ true → IsWellFormed group
passes group e = record { items = λ place it h. presets_pass (length group.settings) 0 group.presets e place place (omega arith) it h }

-- ---- the groups

x86_passes : lawful_presets (length x86.settings) 0 x86.presets ≡ true
unfolding x86
x86_passes = refl

arm64_passes : lawful_presets (length arm64.settings) 0 arm64.presets ≡ true
unfolding arm64
arm64_passes = refl

s390x_passes : lawful_presets (length s390x.settings) 0 s390x.presets ≡ true
unfolding s390x
s390x_passes = refl

riscv64_passes : lawful_presets (length riscv64.settings) 0 riscv64.presets ≡ true
unfolding riscv64
riscv64_passes = refl

pulley_passes : lawful_presets (length pulley.settings) 0 pulley.presets ≡ true
unfolding pulley
pulley_passes = refl

-- each target's group is well formed
pub all_well_formed : (target : Isa) → IsWellFormed (settings_of target)
all_well_formed isa.X86 = passes x86 x86_passes
all_well_formed isa.Arm64 = passes arm64 arm64_passes
all_well_formed isa.S390x = passes s390x s390x_passes
all_well_formed isa.Riscv64 = passes riscv64 riscv64_passes
all_well_formed isa.Pulley32 = passes pulley pulley_passes
all_well_formed isa.Pulley64 = passes pulley pulley_passes

-- a group that is that of a table is well formed
pub group_lawful : (r : Result SettingGroup OutOfMemory) (target : Isa) (made group : SettingGroup) → IfOk r (λ g. g ≡ made) → made ≡ group → group ≡ settings_of target → IfOk r (λ g. IsWellFormed g)
group_lawful (Ok g) target made group h e f = rw (h ∙ e ∙ f) (all_well_formed target)
group_lawful (Err x) target made group h e f = tt
