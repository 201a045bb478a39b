-- What reading a file to its end answers.
use Rattle.std.specs.Prelude.{◌≡◌, ℕ, ◌^◌, ◌≤◌, ◌<◌, List, ◌++◌, length, drop, Option, Some, None, IsSomeAnd, Result, Ok, Err}
use Rattle.std.specs.Str.{IsUtf8}
use Rattle.isle_outside.specs.Directory.{Current, Nothing, Reading, InFolder, Rose}
use Rattle.isle_outside.specs.declared.errors.IoCause.{IoCause}
use Rattle.isle_outside.specs.declared.errors.IoCause.TheVariants as cause
use Rattle.isle_outside.specs.declared.errors.ReadFail.{ReadFail}
use Rattle.isle_outside.specs.declared.errors.ReadFail.TheVariants as fail

-- why the file of a name is not read: what it holds is told, or that there is none
abbrev pub IsCause : IoCause → Option (List ℕ) → Type 0
IsCause cause.Fault file = Unit {0}
IsCause cause.Absent file = file ≡ None
IsCause cause.TooLong file = IsSomeAnd file (λ bytes. 2 ^ 24 < length bytes)
IsCause cause.NotUtf8 file = IsSomeAnd file (λ bytes. (length bytes ≤ 2 ^ 24) × (IsUtf8 bytes → ⊥))

-- a file that can be read: it is there, is not too long and is text
abbrev pub IsText : List ℕ → Option (List ℕ) → Type 0
IsText text file = (file ≡ Some text) × (length text ≤ 2 ^ 24) × IsUtf8 text

-- the answer to reading a file, where its directory tells it; `view` shows the bytes of what was read
abbrev pub ReadsFile : {X : Type 0} → (X → List ℕ) → Result X ReadFail → Option (List ℕ) → Type 0
ReadsFile view (Ok x) file = IsText (view x) file
ReadsFile view (Err (fail.Io why)) file = IsCause why file
ReadsFile view (Err fail.Memory) file = Unit {0}

-- of the file's bytes at most so many were taken, if the directory tells them
abbrev pub TakenAtMost : ℕ → Option (List ℕ) → Current → Type 0
TakenAtMost most file Nothing = Unit {0}
TakenAtMost most file (InFolder name) = Unit {0}
TakenAtMost most file (Reading None) = Unit {0}
TakenAtMost most file (Reading (Some left)) = IsSomeAnd file (λ bytes. (n : ℕ) × (n ≤ most) × (left ≡ drop n bytes))

-- what is left of the current file, where the directory tells it
abbrev pub left_of : Current → Option (List ℕ)
left_of Nothing = None
left_of (InFolder name) = None
left_of (Reading left) = left

-- these bytes were read since, and now the others are left, if the directory tells them
abbrev pub Front : Current → Current → List ℕ → Type 0
Front (Reading None) now bytes = now ≡ Reading None
Front (Reading (Some all)) now bytes = (left : List ℕ) × (now ≡ Reading (Some left)) × (all ≡ bytes ++ left)
Front Nothing now bytes = ⊥
Front (InFolder name) now bytes = ⊥

-- the answer to reading all bytes that are left; `view` shows those that were read
abbrev pub ReadsRest : {X : Type 0} → (X → List ℕ) → Result X ReadFail → List ℕ → Type 0
ReadsRest view (Ok x) all = (view x ≡ all) × (length all ≤ 2 ^ 24)
ReadsRest view (Err (fail.Io cause.TooLong)) all = 2 ^ 24 < length all
ReadsRest view (Err (fail.Io cause.Fault)) all = Unit {0}
ReadsRest view (Err (fail.Io cause.Absent)) all = ⊥
ReadsRest view (Err (fail.Io cause.NotUtf8)) all = ⊥
ReadsRest view (Err fail.Memory) all = Unit {0}

-- the count of faults rose if the cause is a fault, and is what it was if it is another
abbrev pub RoseAt : IoCause → ℕ → ℕ → Type 0
RoseAt cause.Fault before after = Rose before after
RoseAt cause.Absent before after = after ≡ before
RoseAt cause.TooLong before after = after ≡ before
RoseAt cause.NotUtf8 before after = after ≡ before

-- the count of faults rose if the answer is a fault, and is what it was at every other answer
abbrev pub CountsFault : {X : Type 0} → Result X ReadFail → ℕ → ℕ → Type 0
CountsFault (Ok x) before after = after ≡ before
CountsFault (Err (fail.Io why)) before after = RoseAt why before after
CountsFault (Err fail.Memory) before after = after ≡ before
