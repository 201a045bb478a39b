use Rattle.std.proofs.Common.{◌≡◌, map, take}
use Rattle.std.specs.String.{string_bytes}
use Rattle.isle_outside.specs.Directory.{directly_in}
use Rattle.isle_outside.specs.Memory.{files_of}
use Rattle.isle_outside.proofs.kept.entries.Given as goal

abbrev pub invariant-loop-file : goal.invariant-loop-file
invariant-loop-file l = map string_bytes l.names.items ≡ directly_in (files_of (take l.file-index l.files)) l.folder
