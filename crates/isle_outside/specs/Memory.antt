-- What a directory in memory stands for.
use Rattle.std.specs.Prelude.{◌≡◌, ℕ, ◌^◌, ◌+◌, ◌-◌, List, [], ◌∷◌, map, take, drop, min, length, Bool, Option, Some, None, if◌then◌else◌, slice_get, Vec, String}
use Rattle.std.specs.String.{string_bytes}
use Rattle.std.specs.Str.{bytes_eq}
use Rattle.std.specs.declared.alloc.Global.{Global}
use Rattle.isle_outside.specs.Directory.{Contents, Current, Nothing, Reading, InFolder, Counts}
use Rattle.isle_outside.specs.Failures.{counted, is_failing}
use Rattle.isle_outside.specs.declared.mem_dir.MemDir.{MemDir}
use Rattle.isle_outside.specs.declared.mem_dir.State.{State}
use Rattle.isle_outside.specs.declared.mem_dir.State.TheVariants as state

-- a file as it is kept: its name and its bytes
abbrev pub Kept : Type 0
Kept = String Global × Vec ℕ Global

-- a kept file as the directory tells it
abbrev pub file_of : Kept → List ℕ × List ℕ
file_of kept = (string_bytes kept.0, kept.1.items)

-- the files that are kept, in their order
abbrev pub files_of : List Kept → Contents
files_of = map file_of

-- the bytes of the kept file from a place on
abbrev pub reading_from : Option Kept → ℕ → Current
reading_from None at = Nothing
reading_from (Some kept) at = Reading (Some (drop at kept.1.items))

-- the folder whose name the kept file's name begins with
abbrev pub folder_before : Option Kept → ℕ → Current
folder_before None len = Nothing
folder_before (Some kept) len = InFolder (take len (string_bytes kept.0))

-- what is current if the place is kept as numbers
abbrev pub current_at : State → List Kept → Current
current_at state.Nothing files = Nothing
current_at (state.Reading file at) files = reading_from (slice_get files file) at
current_at (state.Folder file len) files = folder_before (slice_get files file) len

-- the files of a directory in memory
abbrev pub files_in : MemDir → Contents
files_in dir = files_of dir.files.items

-- what is current in a directory in memory
abbrev pub current_in : MemDir → Current
current_in dir = current_at dir.state dir.files.items

-- the counts of a directory in memory
abbrev pub counts_in : MemDir → Counts
counts_in dir = record { faults = dir.faults; finds = dir.finds; given = dir.given }

-- how often a directory in memory has failed
abbrev pub faults_in : MemDir → ℕ
faults_in dir = dir.faults

-- it has had no call yet, and these are the numbers of those that fail
abbrev pub IsUnused : MemDir → List ℕ → Type 0
IsUnused dir fails = (dir.failures.calls ≡ 0) × (dir.failures.numbers.items ≡ fails)

-- the most bytes that `next` gives
abbrev pub piece_in : MemDir → ℕ
piece_in dir = dir.piece

-- how many bytes are left of the current file
abbrev pub left_in : Current → ℕ
left_in (Reading (Some left)) = length left
left_in (Reading None) = 0
left_in Nothing = 0
left_in (InFolder name) = 0

-- a call was counted, and failed just where its number is among those that fail; each failure is a fault
abbrev pub IsCounted : MemDir → MemDir → Bool → Type 0
IsCounted old new failed = (failed ≡ is_failing old.failures.calls old.failures.numbers.items)
    × (new.failures.calls ≡ min (old.failures.calls + 1) (2 ^ 64 - 1))
    × (new.failures.numbers ≡ old.failures.numbers)
    × (new.piece ≡ old.piece)
    × (new.faults ≡ counted failed old.faults)

-- the files with these bytes in the first file of the name, or in a new file at their end
abbrev pub written : Contents → List ℕ → List ℕ → Contents
written [] name bytes = (name, bytes) ∷ []
written (file ∷ files) name bytes = if bytes_eq file.0 name then (file.0, bytes) ∷ files else file ∷ written files name bytes
