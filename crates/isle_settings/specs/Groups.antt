-- Which group of settings each target has.
use Rattle.isle_settings.specs.Arm64.{arm64}
use Rattle.isle_settings.specs.Pulley.{pulley}
use Rattle.isle_settings.specs.Riscv64.{riscv64}
use Rattle.isle_settings.specs.S390x.{s390x}
use Rattle.isle_settings.specs.X86.{x86}
use Rattle.isle_settings.specs.declared.group.SettingGroup.{SettingGroup}
use Rattle.isle_settings.specs.declared.isa.Isa.{Isa}
use Rattle.isle_settings.specs.declared.isa.Isa.TheVariants as isa

-- the settings of a target; the two of Pulley share theirs
abbrev pub settings_of : Isa → SettingGroup
settings_of isa.X86 = x86
settings_of isa.Arm64 = arm64
settings_of isa.S390x = s390x
settings_of isa.Riscv64 = riscv64
settings_of isa.Pulley32 = pulley
settings_of isa.Pulley64 = pulley
