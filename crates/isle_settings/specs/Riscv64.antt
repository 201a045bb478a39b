-- The settings of riscv64.
use Rattle.std.specs.Prelude.{List, [], ◌∷◌, ◌++◌, true, false, codes}
use Rattle.isle_settings.specs.Settings.{Row, flags, group, preset}
use Rattle.isle_settings.specs.declared.group.SettingGroup.{SettingGroup}
use Rattle.isle_settings.specs.declared.group.Setting.{Setting}

-- the flags of vector registers of at least so many bits, for each size
abbrev pub zvl_flags : List Setting
zvl_flags =
    flags false (codes "*zvl32b *zvl64b *zvl128b *zvl256b *zvl512b *zvl1024b *zvl2048b *zvl4096b *zvl8192b *zvl16384b *zvl32768b *zvl65536b")

-- the flags, in order: the four of the base, extensions, the two of registers and fences, sizes of vectors
abbrev pub riscv64_flags : List Setting
riscv64_flags =
    flags true (codes "*m *a *f *d")
    ++ (flags false (codes "*zfa *zfhmin *zfh *v *zvfh *zca *zcd *zcb *zbkb *zba *zbb *zbc *zbs *zicond *zvbb")
    ++ (flags true (codes "*zicsr *zifencei")
    ++ zvl_flags))

-- the presets, in order: each size of vectors has those before it
abbrev pub riscv64_presets : List Row
riscv64_presets =
    preset (codes "has_c") (codes "*zca *zcd")
    ∷ preset (codes "zvl32b") (codes "*zvl32b")
    ∷ preset (codes "zvl64b") (codes "*zvl64b zvl32b")
    ∷ preset (codes "zvl128b") (codes "*zvl128b zvl64b")
    ∷ preset (codes "zvl256b") (codes "*zvl256b zvl128b")
    ∷ preset (codes "zvl512b") (codes "*zvl512b zvl256b")
    ∷ preset (codes "zvl1024b") (codes "*zvl1024b zvl512b")
    ∷ preset (codes "zvl2048b") (codes "*zvl2048b zvl1024b")
    ∷ preset (codes "zvl4096b") (codes "*zvl4096b zvl2048b")
    ∷ preset (codes "zvl8192b") (codes "*zvl8192b zvl4096b")
    ∷ preset (codes "zvl16384b") (codes "*zvl16384b zvl8192b")
    ∷ preset (codes "zvl32768b") (codes "*zvl32768b zvl16384b")
    ∷ preset (codes "zvl65536b") (codes "*zvl65536b zvl32768b")
    ∷ []

-- thirty-three flags, and thirteen presets
unfoldable pub riscv64 : SettingGroup
riscv64 = group (codes "riscv64") riscv64_flags riscv64_presets
