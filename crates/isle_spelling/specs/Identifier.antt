-- The names that Rust takes for an item.
use Rattle.std.specs.Prelude.{◌≡◌, ℕ, List, [], ◌∷◌, Bool, false, ◌==◌, ◌&&◌, ◌||◌, nat_le, IsTrue, codes}
use Rattle.std.specs.List.{list_all, list_any}
use Rattle.std.specs.Str.{bytes_eq}
use Rattle.isle_printer.specs.Token.{is_word_byte}

-- the words that Rust uses
abbrev pub used_words : List (List ℕ)
used_words =
    codes "as" ∷ codes "async" ∷ codes "await" ∷ codes "break" ∷ codes "const" ∷ codes "continue" ∷ codes "crate" ∷ codes "dyn"
    ∷ codes "else" ∷ codes "enum" ∷ codes "extern" ∷ codes "false" ∷ codes "fn" ∷ codes "for" ∷ codes "if" ∷ codes "impl"
    ∷ codes "in" ∷ codes "let" ∷ codes "loop" ∷ codes "match" ∷ codes "mod" ∷ codes "move" ∷ codes "mut" ∷ codes "pub"
    ∷ codes "ref" ∷ codes "return" ∷ codes "self" ∷ codes "Self" ∷ codes "static" ∷ codes "struct" ∷ codes "super" ∷ codes "trait"
    ∷ codes "true" ∷ codes "type" ∷ codes "unsafe" ∷ codes "use" ∷ codes "where" ∷ codes "while"
    ∷ []

-- those that it keeps for later, and the mark that is no name
abbrev pub kept_words : List (List ℕ)
kept_words =
    codes "abstract" ∷ codes "become" ∷ codes "box" ∷ codes "do" ∷ codes "final" ∷ codes "macro" ∷ codes "override" ∷ codes "priv"
    ∷ codes "try" ∷ codes "typeof" ∷ codes "unsized" ∷ codes "virtual" ∷ codes "yield" ∷ codes "_"
    ∷ []

-- a letter or _
abbrev pub is_begin : ℕ → Bool
is_begin b = (nat_le 65 b && nat_le b 90) || (nat_le 97 b && nat_le b 122) || (b == 95)

-- whether a name begins with one
abbrev pub begins : List ℕ → Bool
begins [] = false
begins (b ∷ bs) = is_begin b

-- a letter or _, then letters, digits and _, and no word that Rust has
pub record IsIdentifier (name : List ℕ) : Type 0 where
  pub begins : IsTrue (begins name)
  pub word : IsTrue (list_all is_word_byte name)
  pub unused : list_any (bytes_eq name) used_words ≡ false
  pub free : list_any (bytes_eq name) kept_words ≡ false
