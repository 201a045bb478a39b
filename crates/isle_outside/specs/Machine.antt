-- What is current in a directory of the machine.
use Rattle.std.specs.Prelude.{Option, Some, None, String}
use Rattle.std.specs.String.{string_bytes}
use Rattle.std.specs.declared.alloc.Global.{Global}
use Rattle.isle_outside.specs.Directory.{Current, Nothing, Reading, InFolder}

-- an open file comes first, then the folder that was found; neither tells its contents
abbrev pub opened : {F : Type 0} → Option F → Option (String Global) → Current
opened (Some file) folder = Reading None
opened None (Some name) = InFolder (string_bytes name)
opened None None = Nothing
