-- What reading several inputs answers.
use Rattle.std.specs.Prelude.{◌≡◌, ℕ, ◌+◌, ◌-◌, ◌^◌, ◌<◌, ◌⊎◌, List, [], ◌∷◌, length, map, take, Option, IfSome, IsSomeAnd, String, slice_get}
use Rattle.std.specs.String.{string_bytes}
use Rattle.std.specs.declared.alloc.Global.{Global}
use Rattle.isle_outside.specs.Directory.{Contents, bytes_of, Counts}
use Rattle.isle_outside.specs.Reading.{IsCause, IsText, RoseAt}
use Rattle.isle_outside.specs.declared.errors.IoCause.{IoCause}
use Rattle.isle_outside.specs.declared.errors.ReadFail.{ReadFail}
use Rattle.isle_outside.specs.declared.errors.ReadFail.TheVariants as fail
use Rattle.isle_core.specs.declared.read_error.ReadError.{ReadError}
use Rattle.isle_core.specs.declared.read_error.ReadError.TheVariants as error

-- the bytes of each
abbrev pub bytes_each : List (String Global) → List (List ℕ)
bytes_each = map string_bytes

-- these are the texts of the files of these names, in order
abbrev pub AreRead : Contents → List (List ℕ) → List (List ℕ) → Type 0
AreRead files [] [] = Unit {0}
AreRead files (name ∷ names) (text ∷ texts) = IsText text (bytes_of files name) × AreRead files names texts
AreRead files [] (text ∷ texts) = ⊥
AreRead files (name ∷ names) [] = ⊥

-- the failure of the input at a place
abbrev pub failure_at : ℕ → ReadFail → ReadError
failure_at index (fail.Io why) = error.Io index why
failure_at index fail.Memory = error.Memory

-- so many names were looked up, or that count stands at its limit
abbrev pub IsTried : ℕ → Counts → Counts → Type 0
IsTried n before after = (after.finds ≡ before.finds + n) ⊎ (after.finds ≡ 2 ^ 64 - 1)

-- the input at the place is the first that is not read, for this cause
pub record FailsAt (files : Contents) (names : List (List ℕ)) (index : ℕ) (why : IoCause) : Type 0 where
  pub before : (texts : List (List ℕ)) × AreRead files (take index names) texts
  pub here : IsSomeAnd (slice_get names index) (λ name. IsCause why (bytes_of files name))

-- why inputs are not read: the first that is not, which is the last that was looked up, or want of memory
abbrev pub Fails : ReadError → Option Contents → List (List ℕ) → Counts → Counts → Type 0
Fails error.Memory files names before after = after.faults ≡ before.faults
Fails (error.Io index why) files names before after =
    (index < length names) × IsTried (index + 1) before after × RoseAt why before.faults after.faults × IfSome files (λ fs. FailsAt fs names index why)
