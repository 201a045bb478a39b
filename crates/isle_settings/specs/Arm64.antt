-- The settings of arm64.
use Rattle.std.specs.Prelude.{[], false, codes}
use Rattle.isle_settings.specs.Settings.{flags, group}
use Rattle.isle_settings.specs.declared.group.SettingGroup.{SettingGroup}

-- ten flags, and no presets
unfoldable pub arm64 : SettingGroup
arm64 =
    group (codes "arm64")
    (flags false (codes "has_lse has_pauth has_fp16 has_dotprod has_i8mm sign_return_address_all sign_return_address sign_return_address_with_bkey use_bti use_csdb"))
    []
