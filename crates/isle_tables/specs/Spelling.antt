-- When a text spells tables.
use Rattle.std.specs.Prelude.{◌≡◌, ℕ, List, Some}
use Rattle.std.specs.Str.{IsUtf8}
use Rattle.isle_lexer.specs.Lexeme.{lexemes}
use Rattle.isle_lexer.specs.Token.{IsClosed}
use Rattle.isle_meta.specs.declared.tables.Tables.{Tables}
use Rattle.isle_tables.specs.declared.item.Item.{Item}
use Rattle.isle_tables.specs.Grammar.{ItemsS}
use Rattle.isle_tables.specs.Resolved.{tables_of}

-- the text spells the tables: its comments end, its tokens are items, each FORMAT names a format, and the tables have the items' records
pub record SpellsTables (text : List ℕ) (t : Tables) : Type 0 where
  pub utf8 : IsUtf8 text
  pub closed : IsClosed text
  pub items : List Item
  pub spelt : ItemsS items (lexemes text)
  pub tables : tables_of items ≡ Some t
