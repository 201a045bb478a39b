-- How a run of a function may end.
use Rattle.isle_core.specs.Value.{End, Gives, GivesSome, GivesNone, IsUnreachable, GivesList}
use Rattle.isle_core.specs.declared.types.ReturnKind.{ReturnKind}
use Rattle.isle_core.specs.declared.types.ReturnKind.TheVariants as kind

-- an end of a function of the kind: a value or what is not to be reached, an option of a value, or a list of values
abbrev pub EndFits : ReturnKind → End → Type 0
EndFits kind.Plain (Gives v) = Unit {0}
EndFits kind.Plain IsUnreachable = Unit {0}
EndFits kind.Plain (GivesSome v) = ⊥
EndFits kind.Plain GivesNone = ⊥
EndFits kind.Plain (GivesList vs) = ⊥
EndFits kind.Option (GivesSome v) = Unit {0}
EndFits kind.Option GivesNone = Unit {0}
EndFits kind.Option (Gives v) = ⊥
EndFits kind.Option IsUnreachable = ⊥
EndFits kind.Option (GivesList vs) = ⊥
EndFits kind.Iterator (GivesList vs) = Unit {0}
EndFits kind.Iterator (Gives v) = ⊥
EndFits kind.Iterator (GivesSome v) = ⊥
EndFits kind.Iterator GivesNone = ⊥
EndFits kind.Iterator IsUnreachable = ⊥
