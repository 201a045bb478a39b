-- Slots: where the place of a name may stand, by the name's hash.
use Rattle.std.specs.Prelude.{◌≡◌, ℕ, ◌+◌, ◌*◌, ◌-◌, ◌^◌, ◌%◌, ◌/◌, ◌<◌, ◌≤◌, Bool, false, List, [], ◌∷◌, ◌++◌, length, get_or, take, drop, Option, Some, None, slice_get}
use Rattle.std.specs.List.{find}
use Rattle.std.specs.Option.{option_or}
use Rattle.std.specs.BTreeMap.{BTreeMap}
use Rattle.std.specs.Str.{bytes_eq}
use denote.Ref.{Bor}
use Rattle.isle_declarations.specs.Hashing.{hash_of}
use Rattle.isle_declarations.specs.Symbols.{index_of}
use Rattle.isle_declarations.specs.LookedUp.{at_name}

-- what stands beside the slots: the places of names that found none free
abbrev pub Overflow : Type 0
Overflow = BTreeMap (Bor (List ℕ)) ℕ

-- what stands there is this name
abbrev pub is_name : Option (List ℕ) → List ℕ → Bool
is_name None name = false
is_name (Some other) name = bytes_eq other name

-- the name stands at this place
abbrev pub stands_at : List (List ℕ) → List ℕ → ℕ → Bool
stands_at names name place = is_name (slice_get names place) name

-- the first of a name's slots, among so many slots
unfoldable pub start_of : ℕ → ℕ → ℕ
start_of slots hash = hash / 2 ^ 32 * (slots - 7) % 2 ^ 64 / 2 ^ 32

-- the slots that may have the place of a name of this hash
unfoldable pub window_of : List ℕ → ℕ → List ℕ
window_of slots hash = take 8 (drop (start_of (length slots) hash) slots)

-- the place of a name, in its window or else beside the slots
abbrev pub found_place : List ℕ → Overflow → List (List ℕ) → List ℕ → Option ℕ
found_place slots overflow names name =
    option_or (find (stands_at names name) (window_of slots (hash_of name))) (at_name overflow name)

-- each name has its first place there
pub record Places (names : List (List ℕ)) (slots : List ℕ) (overflow : Overflow) : Type 0 where
  pub finds : (name : List ℕ) → found_place slots overflow names name ≡ index_of names name

-- this name is put there, if it is new after so many names
abbrev pub PutsName : ℕ → List ℕ → List ℕ → Overflow → List ℕ → Overflow → Type 0
PutsName count name slots overflow slots' overflow' =
    (names : List (List ℕ)) → length names ≡ count → index_of names name ≡ None
    → Places names slots overflow → Places (names ++ name ∷ []) slots' overflow'

-- whatever is placed stays so
abbrev pub KeepsPlaces : List ℕ → Overflow → List ℕ → Overflow → Type 0
KeepsPlaces slots overflow slots' overflow' =
    (names : List (List ℕ)) → Places names slots overflow → Places names slots' overflow'

-- no name stands before itself
pub record AreDistinct (names : List (List ℕ)) : Type 0 where
  pub first : (i : ℕ) → i < length names → index_of (take i names) (get_or names i []) ≡ None

-- of so many names at most no place is kept, since they are gone through
abbrev pub few : ℕ
few = 8

-- a table of names: each once, and each found, if there are more than a few
pub record IsTable (names : List (List ℕ)) (slots : List ℕ) (overflow : Overflow) : Type 0 where
  pub distinct : AreDistinct names
  pub placed : few < length names → Places names slots overflow

-- a free slot of a window: it has none of so many places, and has room for the next
pub record IsFree (slots : List ℕ) (hash count slot : ℕ) : Type 0 where
  pub begins : start_of (length slots) hash ≤ slot
  pub ends : slot < start_of (length slots) hash + 8
  pub within : slot < length slots
  pub free : count ≤ get_or slots slot 0
  pub short : count < 2 ^ 32
