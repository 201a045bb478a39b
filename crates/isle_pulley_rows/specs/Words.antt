-- Texts that stand in others.
use Rattle.std.specs.Prelude.{ℕ, List, [], ◌∷◌, Bool, false, ◌||◌, eqb, codes}
use Rattle.std.specs.List.{starts_with}

-- whether a text begins with this word
abbrev pub begins_with : (word text : List ℕ) → Bool
begins_with word text = starts_with eqb text word

-- whether this word stands in a text; it is not empty
abbrev pub holds : (word text : List ℕ) → Bool
holds word [] = false
holds word (b ∷ bs) = begins_with word (b ∷ bs) || holds word bs

-- a type is a register's
abbrev pub is_register : List ℕ → Bool
is_register ty = holds (codes "Reg") ty
