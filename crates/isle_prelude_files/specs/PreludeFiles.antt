-- The four files of preludes that are made from tables.
use Rattle.std.specs.Prelude.{◌≡◌, ℕ, List, [], ◌∷◌, Option, Some, None, Result, Ok, Err}
use Rattle.isle_meta.specs.Layout.{joined_name}
use Rattle.isle_table_check.specs.SupportedTables.{AreSupported, IsFirstUnsupported}
use Rattle.isle_meta.specs.declared.errors.GenError.{GenError}
use Rattle.isle_meta.specs.declared.errors.GenError.TheVariants as gen
use Rattle.isle_meta.specs.declared.tables.Tables.{Tables}
use Rattle.isle_numeric_methods.specs.Methods.{numeric_methods}
use Rattle.isle_numerics.specs.Definitions.{numeric_defs}
use Rattle.isle_outside.specs.Directory.{Contents}
use Rattle.isle_prelude.specs.ClifFiles.{lower_defs, opt_defs}
use Rattle.isle_prelude_files.specs.Outputs.{File, Writes}
use Rattle.isle_writing.specs.Text.{def_texts}

-- the four files: the rule text and the Rust text of the numeric prelude, the file of an optimizer, and that of lowering
abbrev pub prelude_files : (folder numerics methods opt lower : List ℕ) → Tables → List File
prelude_files folder numerics methods opt lower t =
    (joined_name folder numerics, def_texts numeric_defs)
    ∷ (joined_name folder methods, numeric_methods)
    ∷ (joined_name folder opt, def_texts (opt_defs t))
    ∷ (joined_name folder lower, def_texts (lower_defs t))
    ∷ []

-- what their writing leaves and answers. All rows are supported, and it is that of these files; or a row isn't, and all files are as before.
-- Memory may run out before that is known, and then none was written
abbrev pub WritesPreludes : Tables → List File → (old new : Option Contents) → Result ℕ GenError → Type 0
WritesPreludes t files old new (Ok n) = AreSupported t × Writes files old new (Ok n)
WritesPreludes t files old new (Err (gen.Unsupported found)) = IsFirstUnsupported t (Some found) × (new ≡ old)
WritesPreludes t files old new (Err (gen.Dir n)) = AreSupported t × Writes files old new (Err (gen.Dir n))
WritesPreludes t files old new (Err (gen.Memory n)) = Writes files old new (Err (gen.Memory n))
