-- What the making of the four texts answers, and the files that are made of them.
use Rattle.std.specs.Prelude.{◌≡◌, ℕ, List, [], ◌∷◌, Some, None, Result, Ok, Err, string_bytes}
use Rattle.isle_meta.specs.Layout.{joined_name}
use Rattle.isle_table_check.specs.SupportedTables.{AreSupported, IsFirstUnsupported}
use Rattle.isle_meta.specs.declared.errors.GenError.{GenError}
use Rattle.isle_meta.specs.declared.errors.GenError.TheVariants as gen
use Rattle.isle_meta.specs.declared.errors.TableFail.{TableFail}
use Rattle.isle_meta.specs.declared.errors.TableFail.TheVariants as fail
use Rattle.isle_meta.specs.declared.tables.Tables.{Tables}
use Rattle.isle_numeric_methods.specs.Methods.{numeric_methods}
use Rattle.isle_numerics.specs.Definitions.{numeric_defs}
use Rattle.isle_prelude.specs.ClifFiles.{lower_defs, opt_defs}
use Rattle.isle_prelude_files.specs.Outputs.{File}
use Rattle.isle_prelude_files.specs.declared.names.Names.{Names}
use Rattle.isle_prelude_files.specs.declared.texts.Texts.{Texts}
use Rattle.isle_writing.specs.Text.{def_texts}

-- these are the four texts
pub record AreTexts (t : Tables) (texts : Texts) : Type 0 where
  pub numerics : string_bytes texts.numerics ≡ def_texts numeric_defs
  pub methods : string_bytes texts.methods ≡ numeric_methods
  pub opt : string_bytes texts.opt ≡ def_texts (opt_defs t)
  pub lower : string_bytes texts.lower ≡ def_texts (lower_defs t)

-- all rows are supported, and these are the texts; or the first row that isn't supported; or memory ran out, and nothing was written
abbrev pub MakesTexts : Tables → Result Texts GenError → Type 0
MakesTexts t (Ok texts) = AreSupported t × AreTexts t texts
MakesTexts t (Err (gen.Unsupported found)) = IsFirstUnsupported t (Some found)
MakesTexts t (Err (gen.Dir n)) = ⊥
MakesTexts t (Err (gen.Memory n)) = n ≡ 0

-- a table's refusal as one of files, of which none was written
abbrev pub of_table : TableFail → GenError
of_table (fail.Unsupported found) = gen.Unsupported found
of_table fail.Memory = gen.Memory 0

-- the four names, in order
abbrev pub given_names : Names → List (List ℕ)
given_names n = n.numerics.now ∷ n.methods.now ∷ n.opt.now ∷ n.lower.now ∷ []

-- the four files, in order
abbrev pub files_with : Names → Texts → List File
files_with n x =
    (joined_name n.folder.now n.numerics.now, string_bytes x.numerics)
    ∷ (joined_name n.folder.now n.methods.now, string_bytes x.methods)
    ∷ (joined_name n.folder.now n.opt.now, string_bytes x.opt)
    ∷ (joined_name n.folder.now n.lower.now, string_bytes x.lower)
    ∷ []
