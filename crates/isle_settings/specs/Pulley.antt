-- The settings of both Pulley targets.
use Rattle.std.specs.Prelude.{[], ◌∷◌, false, codes}
use Rattle.isle_settings.specs.Settings.{choice, flag, group}
use Rattle.isle_settings.specs.declared.group.SettingGroup.{SettingGroup}

-- the width of pointers, a flag, and no presets
unfoldable pub pulley : SettingGroup
pulley = group (codes "pulley") (choice (codes "pointer_width") (codes "pointer32" ∷ codes "pointer64" ∷ []) ∷ flag false (codes "big_endian") ∷ []) []
