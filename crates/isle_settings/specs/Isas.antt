-- The targets: their order, their names, and the words of their architectures.
use Rattle.std.specs.Prelude.{◌≡◌, ℕ, List, [], ◌∷◌, ◌++◌, Option, Some, None, Result, Ok, Err, find, codes}
use Rattle.std.specs.List.{list_any}
use Rattle.std.specs.Str.{bytes_eq}
use Rattle.isle_settings.specs.declared.isa.Isa.{Isa}
use Rattle.isle_settings.specs.declared.isa.Isa.TheVariants as isa
use Rattle.isle_settings.specs.declared.isa_error.IsaError.{IsaError}
use Rattle.isle_settings.specs.declared.isa_error.IsaError.TheVariants as error

-- the targets, in order
abbrev pub isas : List Isa
isas = isa.X86 ∷ isa.Arm64 ∷ isa.S390x ∷ isa.Riscv64 ∷ isa.Pulley32 ∷ isa.Pulley64 ∷ []

-- a target's name, as it is shown
abbrev pub isa_name : Isa → List ℕ
isa_name isa.X86 = codes "x86"
isa_name isa.Arm64 = codes "arm64"
isa_name isa.S390x = codes "s390x"
isa_name isa.Riscv64 = codes "riscv64"
isa_name isa.Pulley32 = codes "pulley32"
isa_name isa.Pulley64 = codes "pulley64"

-- the words of the architectures that a target stands for
abbrev pub arch_words : Isa → List (List ℕ)
arch_words isa.X86 = codes "x86_64" ∷ codes "i386" ∷ codes "i586" ∷ codes "i686" ∷ []
arch_words isa.Arm64 = codes "aarch64" ∷ []
arch_words isa.S390x = codes "s390x" ∷ []
arch_words isa.Riscv64 = codes "riscv64" ∷ codes "riscv64gc" ∷ codes "riscv64imac" ∷ []
arch_words isa.Pulley32 = codes "pulley32" ∷ []
arch_words isa.Pulley64 = codes "pulley64" ∷ []

-- the target whose name this is
unfoldable pub isa_named : List ℕ → Option Isa
isa_named name = find (λ target. bytes_eq name (isa_name target)) isas

-- the target that stands for the architecture of this word
unfoldable pub isa_of_arch : List ℕ → Option Isa
isa_of_arch arch = find (λ target. list_any (bytes_eq arch) (arch_words target)) isas

-- the text of a refusal
abbrev pub isa_error_text : IsaError → List ℕ
isa_error_text (error.Unknown arch) = codes "no supported isa found for arch `" ++ (arch ++ codes "`")
isa_error_text error.Memory = codes "out of memory"

-- what the look-up of an architecture's word answers: its target; or the word, just where none stands for it; memory may run out there alone
abbrev pub FindsIsa : List ℕ → Result Isa IsaError → Type 0
FindsIsa arch (Ok target) = isa_of_arch arch ≡ Some target
FindsIsa arch (Err (error.Unknown word)) = (isa_of_arch arch ≡ None) × (word ≡ arch)
FindsIsa arch (Err error.Memory) = isa_of_arch arch ≡ None

-- that no target stands for the architecture of this word, which is handed on, or that memory ran out
abbrev pub IsUnknown : List ℕ → IsaError → Type 0
IsUnknown arch (error.Unknown word) = word ≡ arch
IsUnknown arch error.Memory = Unit {0}
