-- What a directory is, apart from how it is kept.
use Rattle.std.specs.Prelude.{◌≡◌, ℕ, ◌+◌, ◌-◌, ◌^◌, ◌≤◌, ◌<◌, ◌⊎◌, List, [], ◌∷◌, length, take, drop, min, max, Bool, true, false, ◌==◌, Option, Some, None, IfSome, IsSomeAnd, if◌then◌else◌, option_and_then, IsPermutation}
use Rattle.std.specs.Option.{is_some}
use Rattle.std.specs.List.{filter_map, list_any}
use Rattle.std.specs.Str.{bytes_eq}
use Rattle.isle_outside.specs.declared.dir.Found.{Found}
use Rattle.isle_outside.specs.declared.dir.Found.TheVariants.{Absent, File, Folder}

-- the files of a directory: a name and the bytes of each
abbrev pub Contents : Type 0
Contents = List (List ℕ × List ℕ)

-- what is current: nothing, a file with its bytes left if the directory tells them, or a folder
pub data Current : Type 0 where
  Nothing : Current
  Reading : (left : Option (List ℕ)) → Current
  InFolder : (name : List ℕ) → Current

-- the bytes of the first file of the name
abbrev pub bytes_of : Contents → List ℕ → Option (List ℕ)
bytes_of [] name = None
bytes_of (file ∷ files) name = if bytes_eq file.0 name then Some file.1 else bytes_of files name

-- what stands in a file's name after the folder's name and a slash
abbrev pub inside_folder : List ℕ → List ℕ → Option (List ℕ)
inside_folder [] [] = None
inside_folder [] (b ∷ file) = if b == 47 then Some file else None
inside_folder (c ∷ folder) [] = None
inside_folder (c ∷ folder) (b ∷ file) = if b == c then inside_folder folder file else None

-- a name that stands before a slash in a file's name
abbrev pub is_folder : Contents → List ℕ → Bool
is_folder files name = list_any (λ file. is_some (inside_folder name file.0)) files

-- a name in which no slash stands
abbrev pub plain : List ℕ → Option (List ℕ)
plain name = if list_any (λ b. b == 47) name then None else Some name

-- the names of the files that lie directly in the folder
abbrev pub directly_in : Contents → List ℕ → List (List ℕ)
directly_in files folder = filter_map (λ file. option_and_then plain (inside_folder folder file.0)) files

-- the counts of a directory, each up to 2^64 - 1: how often it failed, how often a name was looked up, and how many bytes
-- of files it gave
pub record Counts : Type 0 where
  pub faults : ℕ
  pub finds : ℕ
  pub given : ℕ

-- a count and so many more, up to its limit
abbrev pub raised : ℕ → ℕ → ℕ
raised n count = min (count + n) (2 ^ 64 - 1)

-- a count of faults rose, or stood at its limit
abbrev pub Rose : ℕ → ℕ → Type 0
Rose before after = (before < after) ⊎ (before ≡ 2 ^ 64 - 1)

-- what `find` may answer, and what is current then
abbrev pub Finds : Option Contents → List ℕ → Found → Current → Type 0
Finds None name File now = now ≡ Reading None
Finds None name Folder now = now ≡ InFolder name
Finds None name Absent now = now ≡ Nothing
Finds (Some files) name File now = IsSomeAnd (bytes_of files name) (λ bytes. now ≡ Reading (Some bytes))
Finds (Some files) name Folder now = (bytes_of files name ≡ None) × (is_folder files name ≡ true) × (now ≡ InFolder name)
Finds (Some files) name Absent now = (bytes_of files name ≡ None) × (is_folder files name ≡ false) × (now ≡ Nothing)

-- a file is current
abbrev pub IsReading : Current → Type 0
IsReading (Reading left) = Unit {0}
IsReading Nothing = ⊥
IsReading (InFolder name) = ⊥

-- what `next` may give: n bytes at the front of the buffer, and none only at the end
abbrev pub GivesNext : Current → Current → ℕ → List ℕ → Type 0
GivesNext (Reading None) now n buf = now ≡ Reading None
GivesNext (Reading (Some left)) now n buf = (n ≤ length left) × (take n buf ≡ take n left) × (now ≡ Reading (Some (drop n left))) × (n ≡ 0 → left ≡ [])
GivesNext Nothing now n buf = ⊥
GivesNext (InFolder name) now n buf = ⊥

-- the names are those of the files directly in the folder, in any order
abbrev pub Lists : Option Contents → List ℕ → List (List ℕ) → Type 0
Lists files folder names = IfSome files (λ fs. IsPermutation (directly_in fs folder) names)

-- every file but that of the name is as before
abbrev pub KeepsOthers : Option Contents → Option Contents → List ℕ → Type 0
KeepsOthers None new name = new ≡ None
KeepsOthers (Some old) new name = IsSomeAnd new (λ fs. (other : List ℕ) → (other ≡ name → ⊥) → bytes_of fs other ≡ bytes_of old other)

-- the file of the name holds the bytes, if the directory tells
abbrev pub Holds : Option Contents → List ℕ → List ℕ → Type 0
Holds files name bytes = IfSome files (λ fs. bytes_of fs name ≡ Some bytes)

-- how many entries of a name there are
abbrev pub entries_of : Contents → List ℕ → ℕ
entries_of [] name = 0
entries_of (file ∷ files) name = if bytes_eq file.0 name then entries_of files name + 1 else entries_of files name

-- the file of a name joins no second entry of the name, and every other name has the entries that it had
pub record AddsNoSecond (old new : Contents) (name : List ℕ) : Type 0 where
  pub here : entries_of new name ≤ max 1 (entries_of old name)
  pub others : (other : List ℕ) → (other ≡ name → ⊥) → entries_of new other ≡ entries_of old other

-- the same if the directory tells its files
abbrev pub KeepsEntries : Option Contents → Option Contents → List ℕ → Type 0
KeepsEntries None new name = new ≡ None
KeepsEntries (Some old) new name = IsSomeAnd new (λ fs. AddsNoSecond old fs name)
