-- Comments, each up to the end of its line.
use Rattle.std.specs.Prelude.{ℕ, List, [], ◌∷◌, ◌++◌, Bool, true, false, ◌==◌, ◌&&◌, if◌then◌else◌}

-- no line feed is in the text
abbrev pub is_line : List ℕ → Bool
is_line [] = true
is_line (b ∷ bs) = if b == 10 then false else is_line bs

-- no line feed is in any of the texts
abbrev pub are_lines : List (List ℕ) → Bool
are_lines [] = true
are_lines (line ∷ lines) = is_line line && are_lines lines

-- each text after two slashes, on a line of its own
abbrev pub comment_lines : List (List ℕ) → List ℕ
comment_lines [] = []
comment_lines (line ∷ lines) = 47 ∷ 47 ∷ (line ++ 10 ∷ comment_lines lines)
