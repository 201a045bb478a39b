-- Calls that a block may make.
use Rattle.std.specs.Prelude.{◌≡◌}
use Rattle.isle_core.specs.declared.types.ReturnKind.{ReturnKind}
use Rattle.isle_core.specs.declared.values.Callee.{Callee}
use Rattle.isle_core.specs.declared.values.Callee.TheVariants.{External, Internal}
use Rattle.isle_core.specs.Calling.{Calling, ByTurns, ByCases, NoCall}

-- an external function
abbrev pub IsExternal : Callee → Type 0
IsExternal (External name) = Unit {0}
IsExternal (Internal name) = ⊥

-- a call that answers so often
abbrev pub IsCall : ReturnKind → Calling → Type 0
IsCall kind (ByTurns callee of) = of ≡ kind
IsCall kind (ByCases callee of) = of ≡ kind
IsCall kind NoCall = ⊥

-- a call of an external extractor that answers so often; an extractor is never a function of the text
abbrev pub IsExtraction : ReturnKind → Calling → Type 0
IsExtraction kind (ByCases callee of) = (of ≡ kind) × IsExternal callee
IsExtraction kind (ByTurns callee of) = ⊥
IsExtraction kind NoCall = ⊥
