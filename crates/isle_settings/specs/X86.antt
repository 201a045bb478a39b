-- The settings of x86.
use Rattle.std.specs.Prelude.{List, [], ◌∷◌, false, codes}
use Rattle.isle_settings.specs.Settings.{Row, flags, group, preset}
use Rattle.isle_settings.specs.declared.group.Setting.{Setting}
use Rattle.isle_settings.specs.declared.group.SettingGroup.{SettingGroup}

-- the flags, in order
abbrev pub x86_flags : List Setting
x86_flags = flags false (codes "*sse3 *ssse3 *cmpxchg16b *sse41 *sse42 *avx *avx2 *fma *avx_vnni *avx512bitalg *avx512dq *avx512vl *avx512vbmi *avx512f *avx512vnni *apx *popcnt *bmi1 *bmi2 *lzcnt")

-- the presets, in order; one without words enables nothing
abbrev pub x86_presets : List Row
x86_presets =
    preset (codes "sse3") (codes "*sse3")
    ∷ preset (codes "ssse3") (codes "sse3 *ssse3")
    ∷ preset (codes "sse41") (codes "ssse3 *sse41")
    ∷ preset (codes "sse42") (codes "sse41 *sse42")
    ∷ preset (codes "baseline") []
    ∷ preset (codes "nocona") (codes "sse3 *cmpxchg16b")
    ∷ preset (codes "core2") (codes "sse3 *cmpxchg16b")
    ∷ preset (codes "penryn") (codes "sse41 *cmpxchg16b")
    ∷ preset (codes "atom") (codes "ssse3 *cmpxchg16b")
    ∷ preset (codes "bonnell") (codes "atom")
    ∷ preset (codes "silvermont") (codes "atom sse42 *popcnt")
    ∷ preset (codes "slm") (codes "silvermont")
    ∷ preset (codes "goldmont") (codes "silvermont")
    ∷ preset (codes "goldmont-plus") (codes "goldmont")
    ∷ preset (codes "tremont") (codes "goldmont")
    ∷ preset (codes "alderlake") (codes "tremont *bmi1 *bmi2 *lzcnt *fma *avx_vnni")
    ∷ preset (codes "sierraforest") (codes "alderlake")
    ∷ preset (codes "grandridge") (codes "sierraforest")
    ∷ preset (codes "nehalem") (codes "sse42 *popcnt *cmpxchg16b")
    ∷ preset (codes "corei7") (codes "nehalem")
    ∷ preset (codes "westmere") (codes "nehalem")
    ∷ preset (codes "sandybridge") (codes "westmere *avx")
    ∷ preset (codes "corei7-avx") (codes "sandybridge")
    ∷ preset (codes "ivybridge") (codes "sandybridge")
    ∷ preset (codes "core-avx-i") (codes "ivybridge")
    ∷ preset (codes "haswell") (codes "ivybridge *avx2 *bmi1 *bmi2 *fma *lzcnt")
    ∷ preset (codes "core-avx2") (codes "haswell")
    ∷ preset (codes "broadwell") (codes "haswell")
    ∷ preset (codes "skylake") (codes "broadwell")
    ∷ preset (codes "knl") (codes "*popcnt *avx512f *fma *bmi1 *bmi2 *lzcnt *cmpxchg16b")
    ∷ preset (codes "knm") (codes "knl")
    ∷ preset (codes "skylake-avx512") (codes "broadwell *avx512f *avx512dq *avx512vl")
    ∷ preset (codes "skx") (codes "skylake-avx512")
    ∷ preset (codes "cascadelake") (codes "skylake-avx512 *avx512vnni")
    ∷ preset (codes "cooperlake") (codes "cascadelake")
    ∷ preset (codes "cannonlake") (codes "skylake *avx512f *avx512dq *avx512vl *avx512vbmi")
    ∷ preset (codes "icelake-client") (codes "cannonlake *avx512bitalg *avx512vnni")
    ∷ preset (codes "icelake") (codes "icelake-client")
    ∷ preset (codes "icelake-server") (codes "icelake-client")
    ∷ preset (codes "tigerlake") (codes "icelake-client")
    ∷ preset (codes "sapphirerapids") (codes "icelake-server")
    ∷ preset (codes "raptorlake") (codes "alderlake")
    ∷ preset (codes "meteorlake") (codes "alderlake")
    ∷ preset (codes "graniterapids") (codes "sapphirerapids")
    ∷ preset (codes "opteron") []
    ∷ preset (codes "k8") []
    ∷ preset (codes "athlon64") []
    ∷ preset (codes "athlon-fx") []
    ∷ preset (codes "opteron-sse3") (codes "sse3 *cmpxchg16b")
    ∷ preset (codes "k8-sse3") (codes "sse3 *cmpxchg16b")
    ∷ preset (codes "athlon64-sse3") (codes "sse3 *cmpxchg16b")
    ∷ preset (codes "barcelona") (codes "*popcnt *lzcnt *cmpxchg16b")
    ∷ preset (codes "amdfam10") (codes "barcelona")
    ∷ preset (codes "btver1") (codes "ssse3 *lzcnt *popcnt *cmpxchg16b")
    ∷ preset (codes "btver2") (codes "btver1 *avx *bmi1")
    ∷ preset (codes "bdver1") (codes "*lzcnt *popcnt ssse3 *cmpxchg16b")
    ∷ preset (codes "bdver2") (codes "bdver1 *bmi1")
    ∷ preset (codes "bdver3") (codes "bdver2")
    ∷ preset (codes "bdver4") (codes "bdver3 *avx2 *bmi2")
    ∷ preset (codes "znver1") (codes "sse42 *popcnt *bmi1 *bmi2 *lzcnt *fma *cmpxchg16b")
    ∷ preset (codes "znver2") (codes "znver1")
    ∷ preset (codes "znver3") (codes "znver2")
    ∷ preset (codes "znver4") (codes "znver3 *avx512bitalg *avx512dq *avx512f *avx512vbmi *avx512vl")
    ∷ preset (codes "x86-64") []
    ∷ preset (codes "x86-64-v2") (codes "sse42 *popcnt *cmpxchg16b")
    ∷ preset (codes "x86-64-v3") (codes "x86-64-v2 *bmi1 *bmi2 *fma *lzcnt *avx2")
    ∷ preset (codes "x86-64-v4") (codes "x86-64-v3 *avx512dq *avx512vl")
    ∷ []

-- twenty flags, and sixty-seven presets
unfoldable pub x86 : SettingGroup
x86 = group (codes "x86") x86_flags x86_presets
