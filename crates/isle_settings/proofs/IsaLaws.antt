-- The name of a target is that of no other, and each target stands in the list once.
use Rattle.std.proofs.Common.{◌≡◌, ℕ, zero, suc, Some, refl, sym, ap}
use Rattle.std.specs.Prelude.{slice_get}
use Rattle.isle_settings.specs.Isas.{isa_name, isa_named, isas}
use Rattle.isle_settings.specs.declared.isa.Isa.{Isa}
use Rattle.isle_settings.specs.declared.isa.Isa.TheVariants as isa

-- the target of a target's name is that target
pub named_again : (target : Isa) → isa_named (isa_name target) ≡ Some target
unfolding isa_named
named_again isa.X86 = refl
named_again isa.Arm64 = refl
named_again isa.S390x = refl
named_again isa.Riscv64 = refl
named_again isa.Pulley32 = refl
named_again isa.Pulley64 = refl

-- the place of a target
abbrev pub isa_place : Isa → ℕ
isa_place isa.X86 = 0
isa_place isa.Arm64 = 1
isa_place isa.S390x = 2
isa_place isa.Riscv64 = 3
isa_place isa.Pulley32 = 4
isa_place isa.Pulley64 = 5

-- it stands there
pub listed : (target : Isa) → slice_get isas (isa_place target) ≡ Some target
listed isa.X86 = refl
listed isa.Arm64 = refl
listed isa.S390x = refl
listed isa.Riscv64 = refl
listed isa.Pulley32 = refl
listed isa.Pulley64 = refl

-- and nowhere else
pub listed_once : (place : ℕ) (target : Isa) → slice_get isas place ≡ Some target → isa_place target ≡ place
listed_once zero target e = let same : isa.X86 ≡ target = cc in ap isa_place (sym same)
listed_once (suc zero) target e = let same : isa.Arm64 ≡ target = cc in ap isa_place (sym same)
listed_once (suc (suc zero)) target e = let same : isa.S390x ≡ target = cc in ap isa_place (sym same)
listed_once (suc (suc (suc zero))) target e = let same : isa.Riscv64 ≡ target = cc in ap isa_place (sym same)
listed_once (suc (suc (suc (suc zero)))) target e = let same : isa.Pulley32 ≡ target = cc in ap isa_place (sym same)
listed_once (suc (suc (suc (suc (suc zero))))) target e = let same : isa.Pulley64 ≡ target = cc in ap isa_place (sym same)
listed_once (suc (suc (suc (suc (suc (suc place)))))) target e = absurd cc
