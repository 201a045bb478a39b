-- Which names of files may stand in an emitted text.
use Rattle.std.specs.Prelude.{ℕ, List, Bool}
use Rattle.std.specs.List.{list_all}
use Rattle.isle_lawful_names.specs.Words.{is_file_name}

-- all names of files, as printed, may stand in a comment or a string
abbrev pub are_file_names : List (List ℕ) → Bool
are_file_names names = list_all is_file_name names
