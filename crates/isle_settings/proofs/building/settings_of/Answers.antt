use Rattle.std.proofs.Common.{refl}
use Rattle.isle_settings.specs.declared.isa.Isa.TheVariants as isa
use Rattle.isle_settings.proofs.GroupLaws.{group_lawful}
use Rattle.isle_settings.proofs.building.settings_of.Goals as goal

pub returns-in-X86-clause-lawful : goal.returns-in-X86-clause-lawful
returns-in-X86-clause-lawful c = group_lawful _ isa.X86 _ _ c.group_of.ensures c.x86.ensures refl

pub returns-in-Arm64-clause-lawful : goal.returns-in-Arm64-clause-lawful
returns-in-Arm64-clause-lawful c = group_lawful _ isa.Arm64 _ _ c.group_of-in-Arm64.ensures c.arm64.ensures refl

pub returns-in-S390x-clause-lawful : goal.returns-in-S390x-clause-lawful
returns-in-S390x-clause-lawful c = group_lawful _ isa.S390x _ _ c.group_of-in-S390x.ensures c.s390x.ensures refl

pub returns-in-Riscv64-clause-lawful : goal.returns-in-Riscv64-clause-lawful
returns-in-Riscv64-clause-lawful c = group_lawful _ isa.Riscv64 _ _ c.group_of-in-Riscv64.ensures c.riscv64.ensures refl

pub returns-in-Pulley32-clause-lawful : goal.returns-in-Pulley32-clause-lawful
returns-in-Pulley32-clause-lawful c = group_lawful _ isa.Pulley32 _ _ c.group_of-in-Pulley32.ensures c.pulley.ensures refl
