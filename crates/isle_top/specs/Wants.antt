-- Refusals by when they come: for want of memory at any time, and before all calls of the directory.
use Rattle.std.specs.Prelude.{◌≡◌}
use Rattle.isle_codegen.specs.declared.file_error.FileError.TheVariants as file
use Rattle.isle_run.specs.declared.run_fail.RunFail.TheVariants as run
use Rattle.isle_top.specs.declared.refusal.Refusal.{Refusal}
use Rattle.isle_top.specs.declared.refusal.Refusal.TheVariants as refusal

-- memory alone was wanting
abbrev pub IsWant : Refusal → Type 0
IsWant (refusal.Files file.Memory) = Unit {0}
IsWant (refusal.Run e) = e ≡ run.Memory
IsWant e = ⊥

-- the directory wasn't asked for anything: there is no such unit, or a row of the tables isn't supported
abbrev pub IsEarly : Refusal → Type 0
IsEarly refusal.NoUnit = Unit {0}
IsEarly (refusal.Tables found) = Unit {0}
IsEarly e = ⊥
