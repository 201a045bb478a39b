-- Places in files.
use Rattle.std.specs.Prelude.{ℕ, ◌≤◌, ◌<◌, List, [], length, slice_index_or}
use Rattle.isle_core.specs.declared.files.Files.{Files}
use Rattle.isle_core.specs.declared.position.Pos.{Pos}
use Rattle.isle_core.specs.Printed.{line_of, place_text}

-- the name of a file, as printed
abbrev pub name_in : Files → ℕ → List ℕ
name_in files file = slice_index_or files.file_names file []

-- the text of a file
abbrev pub text_in : Files → ℕ → List ℕ
text_in files file = slice_index_or files.file_texts file []

-- the place lies in the files: its file has a name and a text, and its offset is at most the text's length
pub record LiesIn (files : Files) (pos : Pos) : Type 0 where
  pub named : pos.file < length files.file_names
  pub found : pos.file < length files.file_texts
  pub within : pos.offset ≤ length (text_in files pos.file)

-- a place as it is printed
abbrev pub place_in : Files → Pos → List ℕ
place_in files pos = place_text (name_in files pos.file) (line_of (text_in files pos.file) pos.offset)
