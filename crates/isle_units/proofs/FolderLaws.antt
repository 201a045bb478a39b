-- The names of a folder in order, and the paths that a file or a folder adds.
use Rattle.std.proofs.Common.{◌≡◌, ℕ, ◌+◌, ◌<◌, List, [], ◌∷◌, ◌++◌, false, length, get_or, Option, Some, None, Result, Ok, Err, String, Global, string_bytes, string_cmp, refl, sym, subst, arith}
use Rattle.std.specs.Prelude.{IfSome, IsPermutation, IsSome, IsSomeAnd, IsSorted, OnOk}
use Rattle.std.specs.Cmp.Lexicographic.{slice_cmp}
use Rattle.std.specs.Ordering.{nat_cmp, is_lt}
use Rattle.std.proofs.lemmas.List.{get_or-map, length-map}
use Rattle.std.proofs.lemmas.List.Sorted.{IsPermutation-map, IsPermutation-trans}
use Rattle.isle_core.specs.Inputs.{bytes_each}
use Rattle.isle_outside.specs.Directory.{Contents, Current, Finds, bytes_of, directly_in}
use Rattle.isle_outside.specs.declared.dir.Found.{Found}
use Rattle.isle_outside.specs.declared.dir.Found.TheVariants.{File, Folder}
use Rattle.isle_units.specs.Paths.{AddsFolder, AddsPaths, of_file, of_folder}
use Rattle.isle_units.specs.declared.paths_error.PathsError.{PathsError}

-- ---- names

-- names that were sorted are those that were listed
pub still_listed : (files : Option Contents) (folder : List ℕ) (names sorted : List (String Global)) → IfSome files (λ fs. IsPermutation (directly_in fs folder) (bytes_each names)) → IsPermutation names sorted
    → IfSome files (λ fs. IsPermutation (directly_in fs folder) (bytes_each sorted))
still_listed None folder names sorted h p = tt
still_listed (Some fs) folder names sorted h p = IsPermutation-trans (directly_in fs folder) (bytes_each names) (bytes_each sorted) h (IsPermutation-map string_bytes names sorted p)

-- texts in order have their bytes in order
pub bytes_sorted : (names : List (String Global)) → IsSorted string_cmp names → IsSorted (slice_cmp nat_cmp) (bytes_each names)
bytes_sorted [] h k d low high = absurd (omega arith)
bytes_sorted (x ∷ xs) h k d low high =
    let count : length (bytes_each (x ∷ xs)) ≡ length (x ∷ xs) = length-map (x ∷ xs) string_bytes in
    let within : k + 1 < length (x ∷ xs) = omega (arith, count) in
    let later : get_or (bytes_each (x ∷ xs)) (k + 1) d ≡ string_bytes (get_or (x ∷ xs) (k + 1) x) = get_or-map string_bytes (x ∷ xs) (k + 1) x d within in
    let first : get_or (bytes_each (x ∷ xs)) k d ≡ string_bytes (get_or (x ∷ xs) k x) = get_or-map string_bytes (x ∷ xs) k x d (omega arith) in
    subst (λ a. is_lt (slice_cmp nat_cmp a (get_or (bytes_each (x ∷ xs)) k d)) ≡ false) (sym later)
    (subst (λ b. is_lt (slice_cmp nat_cmp (string_bytes (get_or (x ∷ xs) (k + 1) x)) b) ≡ false) (sym first) (h k x low within))

-- ---- paths

some_there : (o : Option (List ℕ)) (P : List ℕ → Type 0) → IsSomeAnd o P → IsSome o
some_there (Some x) P h = refl
some_there None P h = absurd h

-- a file is its own path
pub file_added : (files : Option Contents) (input : List ℕ) (r : Result Unit PathsError) (old new : List (List ℕ)) (found : Found) (now : Current)
    → found ≡ File → Finds files input found now → OnOk r (new ≡ old ++ input ∷ []) → OnOk r (AddsPaths files input old new)
file_added files input (Err x) old new found now is f e = tt
file_added None input (Ok x) old new found now is f e = (input ∷ [], e, tt)
file_added (Some fs) input (Ok x) old new found now is f e =
    let file : Finds (Some fs) input File now = subst (λ k. Finds (Some fs) input k now) is f in (input ∷ [], e, of_file (some_there (bytes_of fs input) _ file))

-- a folder has the paths of its files
pub folder_added : (files seen : Option Contents) (input : List ℕ) (r : Result Unit PathsError) (old new : List (List ℕ)) (found : Found) (now : Current)
    → found ≡ Folder → Finds files input found now → seen ≡ files → OnOk r (AddsFolder seen input old new) → OnOk r (AddsPaths files input old new)
folder_added files seen input (Err x) old new found now is f e a = tt
folder_added None seen input (Ok x) old new found now is f e a = (a.0, a.1, tt)
folder_added (Some fs) seen input (Ok x) old new found now is f e a =
    let folder : Finds (Some fs) input Folder now = subst (λ k. Finds (Some fs) input k now) is f in
    let own = subst (λ o. AddsFolder o input old new) e a in
    (own.0, own.1, of_folder folder.0 folder.1 own.2)
