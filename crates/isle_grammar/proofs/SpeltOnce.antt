-- A text spells at most one list of definitions.
use Rattle.std.proofs.Common.{◌≡◌, ℕ, List}
use Rattle.isle_lexer.specs.Lexeme.{lexemes}
use Rattle.isle_ast.specs.Tree.{Def}
use Rattle.isle_grammar.specs.Spelling.{Spells}
use Rattle.isle_grammar.proofs.Files.{file_once}

-- two lists that one text spells are one
pub spelt_once : {file : ℕ} {text : List ℕ} {ds es : List Def} → Spells file text ds → Spells file text es → ds ≡ es
spelt_once {file = file} {text = text} {ds = ds} {es = es} h k = file_once file (lexemes text) ds es h.tokens.shallow h.tokens.definitions k.tokens.definitions
