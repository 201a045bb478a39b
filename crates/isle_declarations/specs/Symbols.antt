-- Symbols: the names of definitions and of the terms that types make, numbered by their first places.
use Rattle.std.specs.Prelude.{ℕ, ◌+◌, List, [], ◌∷◌, ◌++◌, Option, Some, None, if◌then◌else◌, is_some, fold, flat_map, option_map}
use Rattle.std.specs.Str.{bytes_eq}
use Rattle.isle_core.specs.declared.Sym.{Sym}
use Rattle.isle_ast.specs.Tree.{Def}
use Rattle.isle_declarations.specs.Names.{def_names}
use Rattle.isle_declarations.specs.DeclaredTypes.{made_terms}

-- the first place of a name
abbrev pub index_of : List (List ℕ) → List ℕ → Option ℕ
index_of [] name = None
index_of (other ∷ names) name = if bytes_eq other name then Some 0 else option_map (λ (n : ℕ). n + 1) (index_of names name)

-- the names, with one that is not there yet at the end
abbrev pub added : List (List ℕ) → List ℕ → List (List ℕ)
added names name = if is_some (index_of names name) then names else names ++ name ∷ []

-- the symbols of definitions: the names in them, each once, and then those of the terms that types make which are no symbols yet
abbrev pub symbols : List Def → List (List ℕ)
symbols defs = fold added (fold added [] (flat_map def_names defs)) (made_terms defs)

-- a number, or 0
abbrev pub number_or : Option ℕ → ℕ
number_or None = 0
number_or (Some n) = n

-- the symbol of a name
abbrev pub sym_of : List (List ℕ) → List ℕ → Sym
sym_of names name = record { 0 = number_or (index_of names name) }
