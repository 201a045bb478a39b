-- The target that a word stands for.
use Rattle.std.specs.Prelude.{ℕ, List, Option, Some, None}
use Rattle.isle_settings.specs.Isas.{isa_named, isa_of_arch}
use Rattle.isle_settings.specs.declared.isa.Isa.{Isa}

-- the one target, or else the other
abbrev pub or_else : Option Isa → Option Isa → Option Isa
or_else (Some target) other = Some target
or_else None other = other

-- the target of this name, or else that of the architecture of this word
unfoldable pub target_of : (word : List ℕ) → Option Isa
target_of word = or_else (isa_named word) (isa_of_arch word)
