-- The settings of s390x.
use Rattle.std.specs.Prelude.{List, [], ◌∷◌, false, codes}
use Rattle.isle_settings.specs.Settings.{Row, flags, group, preset}
use Rattle.isle_settings.specs.declared.group.SettingGroup.{SettingGroup}

-- the presets, in order
abbrev pub s390x_presets : List Row
s390x_presets =
    preset (codes "arch13") (codes "*mie3 *vxrs_ext2")
    ∷ preset (codes "arch14") (codes "*mie3 *vxrs_ext2")
    ∷ preset (codes "arch15") (codes "*mie3 *mie4 *vxrs_ext2 *vxrs_ext3")
    ∷ preset (codes "z15") (codes "*mie3 *vxrs_ext2")
    ∷ preset (codes "z16") (codes "*mie3 *vxrs_ext2")
    ∷ preset (codes "z17") (codes "*mie3 *mie4 *vxrs_ext2 *vxrs_ext3")
    ∷ []

-- four flags, and six presets
unfoldable pub s390x : SettingGroup
s390x = group (codes "s390x") (flags false (codes "*mie3 *vxrs_ext2 *mie4 *vxrs_ext3")) s390x_presets
