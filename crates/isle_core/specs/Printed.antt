-- How the names of files and places are printed.
use Rattle.std.specs.Prelude.{ℕ, ◌+◌, List, [], ◌∷◌, ◌++◌, take, codes, count_by, ◌==◌, Option, Some, None, if◌then◌else◌}
use Rattle.std.specs.Fmt.{decimal}
use Rattle.isle_core.specs.declared.options.Prefix.{Prefix}

-- what stands after the prefix, where the name begins with it
abbrev pub after_prefix : List ℕ → List ℕ → Option (List ℕ)
after_prefix [] name = Some name
after_prefix (p ∷ prefix) [] = None
after_prefix (p ∷ prefix) (b ∷ name) = if b == p then after_prefix prefix name else None

-- the name, the first prefix that begins it replaced
abbrev pub shown : List Prefix → List ℕ → List ℕ
shown [] name = name
shown (p ∷ prefixes) name = replaced (after_prefix p.prefix name) (shown prefixes name)
  where
    replaced : Option (List ℕ) → List ℕ → List ℕ
    replaced (Some rest) others = p.name ++ rest
    replaced None others = others

-- the number of the line of a place in a text, from 1; only a line feed ends a line
abbrev pub line_of : List ℕ → ℕ → ℕ
line_of text offset = 1 + count_by (λ b. b == 10) (take offset text)

-- a place as it is printed
abbrev pub place_text : List ℕ → ℕ → List ℕ
place_text name line = name ++ (codes " line " ++ decimal line)
