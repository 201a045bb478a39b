-- What a word is: an integer, or a symbol of one of four kinds.
use Rattle.std.specs.Prelude.{◌≡◌, ℕ, ℤ, List, drop, slice_index, Bool, true, false, ◌||◌, ◌==◌, if◌then◌else◌, Option, Some, None, bytes_eq, codes}
use Rattle.isle_lexer.specs.Integer.{is_decimal, int_of}

pub data WordKind : Type 0 where
  -- an integer, by its value
  Number : ℤ → WordKind
  -- it begins as an integer does, and is none
  Malformed : WordKind
  -- true or false
  Truth : Bool → WordKind
  -- a $ and what follows it
  Dollar : (name : List ℕ) → WordKind
  -- _
  Underscore : WordKind
  -- any other symbol
  Plain : WordKind

-- what a word is that begins with a digit or -
abbrev pub number_kind : Option ℤ → WordKind
number_kind None = Malformed
number_kind (Some n) = Number n

-- what a symbol without $ is
abbrev pub symbol_kind : List ℕ → WordKind
symbol_kind word =
    if bytes_eq word (codes "_") then Underscore
    else (if bytes_eq word (codes "true") then Truth true
    else (if bytes_eq word (codes "false") then Truth false
    else Plain))

-- what a word is
unfoldable pub kind : List ℕ → WordKind
kind word =
    if is_decimal (slice_index word 0) || (slice_index word 0 == 45) then number_kind (int_of word)
    else (if slice_index word 0 == 36 then Dollar (drop 1 word)
    else symbol_kind word)

-- a symbol, and no $N
abbrev pub names : WordKind → Bool
names (Number n) = false
names Malformed = false
names (Truth b) = true
names (Dollar name) = false
names Underscore = true
names Plain = true

-- the word may stand where the grammar has a name
abbrev pub IsName : List ℕ → Type 0
IsName word = names (kind word) ≡ true

-- a word that directly after `decl` is a flag
abbrev pub is_flag : List ℕ → Bool
is_flag word = bytes_eq word (codes "pure") || bytes_eq word (codes "multi") || bytes_eq word (codes "partial") || bytes_eq word (codes "rec")

-- the word that where a call has its name begins another form
abbrev pub is_let : List ℕ → Bool
is_let word = bytes_eq word (codes "let")
