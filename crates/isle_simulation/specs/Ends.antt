-- How the run of a term's function ends.
use Rattle.std.specs.Prelude.{Option, Some, None}
use Rattle.isle_core.specs.declared.types.ReturnKind.{ReturnKind}
use Rattle.isle_core.specs.declared.types.ReturnKind.TheVariants as kind
use Rattle.isle_core.specs.Value.{End, Gives, GivesSome, GivesNone, IsUnreachable}
use Rattle.isle_core.specs.Outcome.{Result, Value', Failure, Unmatched}

-- how a run ends that has the result: of a term that may answer nothing in an option; one that answers several times has no single result
abbrev pub end_of : ReturnKind → Result → Option End
end_of kind.Plain (Value' v) = Some (Gives v)
end_of kind.Plain Failure = Some GivesNone
end_of kind.Plain Unmatched = Some IsUnreachable
end_of kind.Option (Value' v) = Some (GivesSome v)
end_of kind.Option Failure = Some GivesNone
end_of kind.Option Unmatched = Some IsUnreachable
end_of kind.Iterator (Value' v) = None
end_of kind.Iterator Failure = None
end_of kind.Iterator Unmatched = None
