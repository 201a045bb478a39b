-- What the writing of files in order leaves, and what it answers.
use Rattle.std.specs.Prelude.{◌≡◌, ℕ, ◌+◌, ◌-◌, ◌^◌, ◌<◌, ◌≤◌, List, length, take, map, max, false, Option, Some, None, IsSomeAnd, Result, Ok, Err}
use Rattle.std.specs.List.{AllByRecursion}
use Rattle.isle_meta.specs.Layout.{joined_name}
use Rattle.isle_meta.specs.TableNames.{is_among}
use Rattle.isle_meta.specs.declared.errors.GenError.{GenError}
use Rattle.isle_meta.specs.declared.errors.GenError.TheVariants as gen
use Rattle.isle_outside.specs.Directory.{Contents, Counts, Holds, Rose, bytes_of, entries_of}
use Rattle.isle_prelude_files.specs.declared.writing.Output.{Output}

-- a file that is to be written: the name that it gets, and its text
abbrev pub File : Type 0
File = List ℕ × List ℕ

-- a file with its name joined to its folder
abbrev pub file_of : Output → File
file_of o = (joined_name o.folder.now o.name.now, o.text.now)

-- files, in order
abbrev pub files_of : List Output → List File
files_of outputs = map file_of outputs

-- their names
abbrev pub names_of : List File → List (List ℕ)
names_of files = map (λ (file : File). file.0) files

-- every file whose name is none of these is as before
abbrev pub KeepsAllBut : List (List ℕ) → (old new : Option Contents) → Type 0
KeepsAllBut names None new = new ≡ None
KeepsAllBut names (Some old) new = IsSomeAnd new (λ fs. (other : List ℕ) → is_among other names ≡ false → bytes_of fs other ≡ bytes_of old other)

-- each of these files holds its text, if the directory tells
abbrev pub HoldAll : Option Contents → List File → Type 0
HoldAll new files = AllByRecursion (λ (file : File). Holds new file.0 file.1) files

-- each of these files holds its text, and every file of another name is as before
pub record AreLeft (files : List File) (old new : Option Contents) : Type 0 where
  pub hold : HoldAll new files
  pub others : KeepsAllBut (names_of files) old new

-- one of these files may hold anything; those in front of it hold their texts, and every file of another name is as before
pub record AreLeftUpTo (files : List File) (n : ℕ) (old new : Option Contents) : Type 0 where
  pub within : n < length files
  pub hold : HoldAll new (take n files)
  pub others : KeepsAllBut (names_of (take (n + 1) files)) old new

-- what the writing of these files leaves and answers: their number; or how many were written before the directory failed, or before memory
-- ran out
abbrev pub Writes : List File → (old new : Option Contents) → Result ℕ GenError → Type 0
Writes files old new (Ok n) = (n ≡ length files) × AreLeft files old new
Writes files old new (Err (gen.Unsupported found)) = ⊥
Writes files old new (Err (gen.Dir n)) = AreLeftUpTo files n old new
Writes files old new (Err (gen.Memory n)) = (n < length files) × AreLeft (take n files) old new

-- the count of faults rose if the directory failed, and is what it was at every other answer
abbrev pub CountsFault : Result ℕ GenError → (before after : ℕ) → Type 0
CountsFault (Ok n) before after = after ≡ before
CountsFault (Err (gen.Unsupported found)) before after = after ≡ before
CountsFault (Err (gen.Dir n)) before after = Rose before after
CountsFault (Err (gen.Memory n)) before after = after ≡ before

-- how a directory's counts go on: that of faults as the answer says, never down, and where it stands at its limit it stays; nothing was looked
-- up, and no bytes were given
pub record KeepsCounts (answer : Result ℕ GenError) (old new : Counts) : Type 0 where
  pub faults : CountsFault answer old.faults new.faults
  pub later : old.faults ≤ new.faults
  pub stays : old.faults ≡ 2 ^ 64 - 1 → new.faults ≡ 2 ^ 64 - 1
  pub finds : new.finds ≡ old.finds
  pub given : new.given ≡ old.given

-- no name joins a second entry of it
abbrev pub AddsNoSeconds : (old new : Option Contents) → Type 0
AddsNoSeconds None new = new ≡ None
AddsNoSeconds (Some old) new = IsSomeAnd new (λ fs. (name : List ℕ) → entries_of fs name ≤ max 1 (entries_of old name))
