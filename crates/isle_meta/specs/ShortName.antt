-- The short name of a type's path.
use Rattle.std.specs.Prelude.{ℕ, List, [], ◌∷◌, Bool, false, ◌||◌, if◌then◌else◌, take, drop, codes}
use Rattle.std.specs.Str.{bytes_eq}

-- whether two colons begin the text
abbrev pub begins_mark : List ℕ → Bool
begins_mark text = bytes_eq (take 2 text) (codes "::")

-- whether two colons stand in it
abbrev pub has_mark : List ℕ → Bool
has_mark [] = false
has_mark (b ∷ bs) = begins_mark (b ∷ bs) || has_mark bs

-- what follows the last two colons; the whole path if there are none
abbrev pub short_name : List ℕ → List ℕ
short_name [] = []
short_name (b ∷ bs) = if has_mark bs then short_name bs else (if begins_mark (b ∷ bs) then drop 2 (b ∷ bs) else b ∷ bs)
