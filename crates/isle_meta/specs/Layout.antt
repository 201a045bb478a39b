-- What a formatter holds, what its calls append, and the name that its text is written to.
use Rattle.std.specs.Prelude.{ℕ, zero, suc, ◌+◌, ◌-◌, List, [], ◌∷◌, ◌++◌, codes}
use Rattle.isle_meta.specs.declared.formatter.Language.{Language}
use Rattle.isle_meta.specs.declared.formatter.Language.TheVariants as language

-- a text on its way: its language, the levels of indentation, and its bytes
pub record Layout : Type 0 where
  pub language : Language
  pub level : ℕ
  pub text : List ℕ

-- four spaces for each level
abbrev pub indentation : ℕ → List ℕ
indentation zero = []
indentation (suc n) = indentation n ++ codes "    "

-- a line: its level's spaces, the words, and a line feed
abbrev pub line_text : ℕ → List ℕ → List ℕ
line_text level words = indentation level ++ words ++ (10 ∷ [])

-- what begins a comment
abbrev pub comment_mark : Language → List ℕ
comment_mark language.Rust = codes "// "
comment_mark language.Isle = codes ";; "

-- the layout with this text after its own
abbrev pub followed_by : Layout → List ℕ → Layout
followed_by layout text = record { language = layout.language; level = layout.level; text = layout.text ++ text }

-- the layout at this level
abbrev pub at_level : ℕ → Layout → Layout
at_level level layout = record { language = layout.language; level = level; text = layout.text }

-- one level more
abbrev pub deeper : Layout → Layout
deeper layout = at_level (layout.level + 1) layout

-- one level less
abbrev pub shallower : Layout → Layout
shallower layout = at_level (layout.level - 1) layout

-- the layout with a line of these words
abbrev pub with_line : Layout → List ℕ → Layout
with_line layout words = followed_by layout (line_text layout.level words)

-- the name of a file in a folder; an empty folder adds nothing to the name
abbrev pub joined_name : (folder name : List ℕ) → List ℕ
joined_name [] name = name
joined_name (b ∷ folder) name = (b ∷ folder) ++ (47 ∷ name)
