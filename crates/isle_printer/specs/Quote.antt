-- How a text stands between quotes.
use Rattle.std.specs.Prelude.{ℕ, List, [], ◌∷◌, ◌++◌, Bool, true, false, ◌==◌, ◌||◌, if◌then◌else◌}

-- a byte that needs no backslash
abbrev pub is_plain : ℕ → Bool
is_plain b = if (b == 34) || (b == 92) then false else true

-- a backslash before each quote and each backslash
abbrev pub escaped : List ℕ → List ℕ
escaped [] = []
escaped (b ∷ bs) = if (b == 34) || (b == 92) then 92 ∷ b ∷ escaped bs else b ∷ escaped bs

-- the text between two quotes
abbrev pub quoted : List ℕ → List ℕ
quoted text = 34 ∷ (escaped text ++ 34 ∷ [])
