-- What the generator of a file of instructions answers.
use Rattle.std.specs.Prelude.{◌≡◌, ℕ, List, Some, Result, Ok, Err, String, string_bytes}
use Rattle.isle_ast.specs.Tree.{Def}
use Rattle.isle_meta.specs.declared.errors.TableFail.{TableFail}
use Rattle.isle_meta.specs.declared.errors.TableFail.TheVariants as fail
use Rattle.isle_meta.specs.declared.tables.Tables.{Tables}
use Rattle.isle_table_check.specs.SupportedTables.{AreSupported, IsFirstUnsupported}
use Rattle.isle_writing.specs.Spelt.{AreSpelt}
use Rattle.isle_writing.specs.Text.{def_texts}

-- each row of the tables is supported, and the text is that of these definitions: it spells them and no others, but nothing if an
-- instruction among them has the name of a flag
pub record IsTextOf (t : Tables) (defs : List Def) (text : List ℕ) : Type 0 where
  pub supported : AreSupported t
  pub written : text ≡ def_texts defs
  pub spelt : AreSpelt text defs

-- the text of these definitions, or the first row that isn't supported; want of memory is left open
abbrev pub Generates : {A : Type 0} → Tables → List Def → Result (String A) TableFail → Type 0
Generates t defs (Ok text) = IsTextOf t defs (string_bytes text)
Generates t defs (Err (fail.Unsupported found)) = IsFirstUnsupported t (Some found)
Generates t defs (Err fail.Memory) = Unit {0}
