-- What words say in an answers file.
use Rattle.std.specs.Prelude.{ℕ, List, length, Bool, ◌&&◌, ◌||◌, ◌==◌, nat_le, if◌then◌else◌, Option, Some, None, bytes_eq, codes}
use Rattle.std.specs.List.{list_all}
use Rattle.isle_core.specs.Printed.{after_prefix}
use Rattle.isle_core.specs.declared.values.Callee.{Callee}
use Rattle.isle_core.specs.declared.values.Callee.TheVariants.{External, Internal}
use Rattle.isle_lexer.specs.Integer.{is_decimal, spelt_number}

-- N: the number that 1 to 18 decimal digits spell
unfoldable pub count_of : List ℕ → Option ℕ
count_of w = if nat_le 1 (length w) && nat_le (length w) 18 && list_all is_decimal w then Some (spelt_number 10 w) else None

-- a name of one byte or more
abbrev pub some_name : Option (List ℕ) → Option (List ℕ)
some_name None = None
some_name (Some name) = if length name == 0 then None else Some name

-- what stands after the prefix of a word that is longer
abbrev pub name_after : List ℕ → List ℕ → Option (List ℕ)
name_after prefix w = some_name (after_prefix prefix w)

-- the internal callee of that name, if there is one
abbrev pub internal_of : Option (List ℕ) → Option Callee
internal_of None = None
internal_of (Some name) = Some (Internal name)

-- the external callee of that name, or else this
abbrev pub external_or : Option (List ℕ) → Option Callee → Option Callee
external_or None other = other
external_or (Some name) other = Some (External name)

-- C::F or constructor_T
unfoldable pub callee_of : List ℕ → Option Callee
callee_of w = external_or (name_after (codes "C::") w) (internal_of (name_after (codes "constructor_") w))

-- a list that begins with this word, where an answer or a result stands, is a form of its own
abbrev pub is_reserved : List ℕ → Bool
is_reserved w = bytes_eq w (codes "some") || bytes_eq w (codes "none") || bytes_eq w (codes "list") || bytes_eq w (codes "tuple")
