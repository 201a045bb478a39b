-- The files of a unit's inputs.
use Rattle.std.specs.Prelude.{◌≡◌, ℕ, ◌+◌, ◌-◌, ◌<◌, List, [], ◌∷◌, ◌++◌, length, map, take, drop, Bool, true, false, Option, None, IsSome, IfSome, IsSomeAnd, filter, IsPermutation, IsSorted, codes, nat_lt, ◌&&◌, slice_get}
use Rattle.std.specs.Cmp.Lexicographic.{slice_cmp}
use Rattle.std.specs.Ordering.{nat_cmp}
use Rattle.std.specs.Str.{bytes_eq}
use Rattle.isle_core.specs.Inputs.{IsTried}
use Rattle.isle_meta.specs.Layout.{joined_name}
use Rattle.isle_outside.specs.Directory.{Contents, Counts, Rose, bytes_of, directly_in, is_folder}
use Rattle.isle_units.specs.declared.paths_error.PathsError.{PathsError}
use Rattle.isle_units.specs.declared.paths_error.PathsError.TheVariants as error

-- a name ends in `.isle` after at least one byte
abbrev pub is_isle_name : List ℕ → Bool
is_isle_name name = nat_lt 5 (length name) && bytes_eq (drop (length name - 5) name) (codes ".isle")

-- the paths of the files directly in a folder whose names end so: by the bytes of their names, ascending
pub record AreInFolder (files : Contents) (folder : List ℕ) (paths : List (List ℕ)) : Type 0 where
  pub names : List (List ℕ)
  pub listed : IsPermutation (directly_in files folder) names
  pub sorted : IsSorted (slice_cmp nat_cmp) names
  pub joined : paths ≡ map (joined_name folder) (filter is_isle_name names)

-- the paths of an input: a file is its own, a folder has those of its files
pub data ArePathsOf (files : Contents) (input : List ℕ) : List (List ℕ) → Type 0 where
  of_file : IsSome (bytes_of files input) → ArePathsOf files input (input ∷ [])
  of_folder : {paths : List (List ℕ)} → bytes_of files input ≡ None → is_folder files input ≡ true → AreInFolder files input paths → ArePathsOf files input paths

-- the paths of inputs, in order
abbrev pub ArePaths : Contents → List (List ℕ) → List (List ℕ) → Type 0
ArePaths files [] paths = paths ≡ []
ArePaths files (input ∷ inputs) paths =
    (first : List (List ℕ)) × (others : List (List ℕ)) × ArePathsOf files input first × ArePaths files inputs others × (paths ≡ first ++ others)

-- neither a file nor a folder has the name
abbrev pub IsAbsent : Contents → List ℕ → Type 0
IsAbsent files name = (bytes_of files name ≡ None) × (is_folder files name ≡ false)

-- the input at a place is the first that is absent
pub record IsFirstAbsent (files : Contents) (inputs : List (List ℕ)) (index : ℕ) : Type 0 where
  pub before : (paths : List (List ℕ)) × ArePaths files (take index inputs) paths
  pub here : IsSomeAnd (slice_get inputs index) (IsAbsent files)

-- why inputs have no paths: the first that is absent, which is the last that was looked up; or the directory failed; or memory ran out
abbrev pub FailsPaths : PathsError → Option Contents → List (List ℕ) → Counts → Counts → Type 0
FailsPaths (error.Absent index) files inputs before after =
    (index < length inputs) × IsTried (index + 1) before after × (after.faults ≡ before.faults) × IfSome files (λ fs. IsFirstAbsent fs inputs index)
FailsPaths error.Dir files inputs before after = Rose before.faults after.faults
FailsPaths error.Memory files inputs before after = after.faults ≡ before.faults

-- ---- one input, as private functions see it

-- to paths those of an input were added
abbrev pub AddsPaths : Option Contents → (input : List ℕ) → (old new : List (List ℕ)) → Type 0
AddsPaths files input old new = (own : List (List ℕ)) × (new ≡ old ++ own) × IfSome files (λ fs. ArePathsOf fs input own)

-- to paths those of the files in a folder were added
abbrev pub AddsFolder : Option Contents → (folder : List ℕ) → (old new : List (List ℕ)) → Type 0
AddsFolder files folder old new = (own : List (List ℕ)) × (new ≡ old ++ own) × IfSome files (λ fs. AreInFolder fs folder own)

-- why the files of a folder have no paths
abbrev pub FailsFolder : PathsError → Counts → Counts → Type 0
FailsFolder (error.Absent index) before after = ⊥
FailsFolder error.Dir before after = Rose before.faults after.faults
FailsFolder error.Memory before after = after.faults ≡ before.faults

-- why the input at a place has no paths
abbrev pub FailsInput : PathsError → Option Contents → (index : ℕ) → (input : List ℕ) → Counts → Counts → Type 0
FailsInput (error.Absent found) files index input before after =
    (found ≡ index) × (after.faults ≡ before.faults) × IfSome files (λ fs. IsAbsent fs input)
FailsInput error.Dir files index input before after = Rose before.faults after.faults
FailsInput error.Memory files index input before after = after.faults ≡ before.faults
