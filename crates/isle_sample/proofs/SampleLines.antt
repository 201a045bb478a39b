-- The sample as lines: a declaration or a rule each.
use Rattle.std.specs.Prelude.{ℕ, ◌+◌, ◌*◌, ◌<◌, ◌%◌, pos, negsuc, List, [], ◌∷◌, ◌++◌, length, map, flat_map, None, false, codes}
use Rattle.std.specs.List.{range_with_len}
use Rattle.isle_core.specs.declared.position.Pos.{Pos}
use Rattle.isle_ast.specs.Tree.{Def, Decl, Rule}
use Rattle.isle_ast.specs.Tree as tree
use Rattle.isle_sample.specs.Sample.{term_name, declaration, rule, last_rule}

-- a line: the declaration of a term, its rule for two numbers, or its rule for all others
pub data Line : Type 0 where
  Declares : (i : ℕ) → Line
  Gives : (i a b : ℕ) → Line
  Otherwise : (i : ℕ) → Line

-- its text
abbrev pub line_text : Line → List ℕ
line_text (Declares i) = declaration i
line_text (Gives i a b) = rule i a b
line_text (Otherwise i) = last_rule i

-- the rules of a term for one number and each below the count
abbrev pub row_lines : (i a count : ℕ) → List Line
row_lines i a count = map (λ b. Gives i a b) (range_with_len 0 count)

-- a term's lines
abbrev pub term_lines : ℕ → List Line
term_lines i = Declares i ∷ (flat_map (λ a. row_lines i a (i % 4 + 1)) (range_with_len 0 (i % 4 + 1)) ++ Otherwise i ∷ [])

-- those of the sample of so many terms
abbrev pub lines : ℕ → List Line
lines n = flat_map term_lines (range_with_len 0 n)

-- the type of each argument and result
abbrev pub u8_name : List ℕ
u8_name = codes "u8"

-- the definition that a line is, at its place
abbrev pub line_def : Line → Pos → Def
line_def (Declares i) at = Decl (term_name i) false false false false (u8_name ∷ u8_name ∷ []) u8_name at
line_def (Gives i a b) at = Rule None (pos 0) (term_name i) (tree.Int (pos a) ∷ tree.Int (pos b) ∷ []) [] (tree.Number (pos (4 * a + b))) at
line_def (Otherwise i) at = Rule None (negsuc 0) (term_name i) (tree.Wildcard ∷ tree.Wildcard ∷ []) [] (tree.Number (pos 255)) at

-- the place in the one file
abbrev pub place : ℕ → Pos
place at = record { file = 0; offset = at }

-- the definitions of lines, the first at this place
abbrev pub defs_at : ℕ → List Line → List Def
defs_at at [] = []
defs_at at (l ∷ ls) = line_def l (place at) ∷ defs_at (at + length (line_text l)) ls

-- its rule's numbers are below four
abbrev pub IsSmall : Line → Type 0
IsSmall (Declares i) = Unit {0}
IsSmall (Gives i a b) = (a < 4) × (b < 4)
IsSmall (Otherwise i) = Unit {0}
