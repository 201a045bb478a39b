-- Which bytes a file's name and the name of a term with rules may have.
use Rattle.std.specs.Prelude.{ℕ, List, Bool, ◌&&◌, not, ◌==◌, nat_le}
use Rattle.std.specs.List.{list_all}
use Rattle.isle_printer.specs.Token.{is_word_byte}

-- no byte below a blank, and not 127
abbrev pub is_name_byte : ℕ → Bool
is_name_byte b = nat_le 32 b && not (b == 127)

-- the name of a file may stand in a comment or a string
abbrev pub is_file_name : List ℕ → Bool
is_file_name name = list_all is_name_byte name

-- the name of a term may stand after `constructor_`
abbrev pub is_term_name : List ℕ → Bool
is_term_name name = list_all is_word_byte name
