-- Why the texts of a unit's files give no text is why it isn't built.
use Rattle.std.proofs.Common.{◌≡◌, ℕ, List, Option, Some, Result, Ok, Err, refl, subst}
use Rattle.std.specs.Prelude.{IfErr}
use Rattle.isle_codegen.specs.Causes.{AllTried, IsTextRefusal}
use Rattle.isle_codegen.specs.Errors.{IsErrors, IsNameError}
use Rattle.isle_codegen.specs.declared.compile_error.CompileError.{CompileError}
use Rattle.isle_codegen.specs.declared.compile_error.CompileError.TheVariants as compile_error
use Rattle.isle_core.specs.declared.errors.Errors.{Errors}
use Rattle.isle_core.specs.declared.files.Files.{Files}
use Rattle.isle_core.specs.declared.options.CodegenOptions.{CodegenOptions}
use Rattle.isle_meta.specs.declared.errors.Unsupported.{Unsupported}
use Rattle.isle_meta.specs.declared.tables.Tables.{Tables}
use Rattle.isle_outside.specs.Directory.{Contents, Counts}
use Rattle.isle_units.specs.declared.compilation.IsleCompilation.{IsleCompilation}
use Rattle.isle_build.specs.Built.{FailsToBuild, FailsToRead, HasNoFiles, IsReadUnit, no_files, wrong, misnamed, no_unit, listed, no_memory}
use Rattle.isle_build.specs.Parts.{of_texts}
use Rattle.isle_build.specs.UnitSource.{IsSourceOfUnit, tracked_of, unit_named}
use Rattle.isle_build.specs.declared.build_error.BuildError.{BuildError}
use Rattle.isle_build.specs.declared.build_error.BuildError.TheVariants as error
use Rattle.isle_build.proofs.SourceLaws.{tracked_listed}

-- the unit's files were read, and this is so of their names and texts
unit_read : (t : Tables) (o : CodegenOptions) (name : List ℕ) (files : Option Contents) (source : Files) (before after : Counts) (P : (names texts : List (List ℕ)) → Type 0)
    → (h : IsSourceOfUnit t o name files source) → AllTried (tracked_of name) before after → P source.file_names source.file_texts → IsReadUnit t o files before after P h.unit
unit_read t o name files source before after P h tried holds = record {
  supported = h.is_source.supported;
  tried = subst (λ ns. AllTried ns before after) (tracked_listed name h.unit h.listed) tried;
  texts = source.file_texts;
  are_texts = h.is_source.texts;
  holds = subst (λ ns. P ns source.file_texts) h.is_source.named holds;
}

-- why the texts of a unit's files give no text is why it isn't built
pub texts_fail : (e : CompileError) (t : Tables) (o : CodegenOptions) (name : List ℕ) (files : Option Contents) (source : Files) (before after : Counts)
    → IsSourceOfUnit t o name files source → AllTried (tracked_of name) before after → IsTextRefusal e source → FailsToBuild t o name files before after (of_texts source e)
texts_fail (compile_error.Errors errors) t o name files source before after h tried refused =
    let found : Errors = record { errors = errors; files = source } in
    listed h.unit (error.Errors found) h.listed (wrong found (unit_read t o name files source before after (IsErrors found) h tried (record { given = refl; errors = refused })))
texts_fail (compile_error.Name e) t o name files source before after h tried refused =
    listed h.unit (error.Name e) h.listed (misnamed e (unit_read t o name files source before after (λ names texts. IsNameError names texts e) h tried refused))
texts_fail compile_error.Memory t o name files source before after h tried refused = no_memory tried.1

-- a unit whose files were read is listed
pub texts_listed : (e : CompileError) (source : Files) → of_texts source e ≡ error.NoUnit → ⊥
texts_listed (compile_error.Errors errors) source h = cc
texts_listed (compile_error.Name e) source h = cc
texts_listed compile_error.Memory source h = cc

-- and its tables are supported
pub texts_supported : (e : CompileError) (source : Files) (found : Unsupported) → of_texts source e ≡ error.Unsupported found → ⊥
texts_supported (compile_error.Errors errors) source found h = cc
texts_supported (compile_error.Name e) source found h = cc
texts_supported compile_error.Memory source found h = cc

-- why the files of a unit that is listed aren't had is why those of its name aren't
pub files_fail : {T : Type 0} (t : Tables) (name : List ℕ) (u : IsleCompilation) (files : Option Contents) (before after : Counts) (r : Result T BuildError) → unit_named name ≡ Some u
    → IfErr r (HasNoFiles t files before after u) → IfErr r (FailsToRead t name files before after)
files_fail t name u files before after (Ok x) is h = tt
files_fail t name u files before after (Err e) is h = listed u e is h

-- files that aren't had give no text
pub files_no_text : (t : Tables) (o : CodegenOptions) (name : List ℕ) (files : Option Contents) (before after : Counts) (e : BuildError) → FailsToRead t name files before after e → FailsToBuild t o name files before after e
files_no_text t o name files before after _ (no_unit is) = no_unit is
files_no_text t o name files before after _ (listed u e is h) = listed u e is (no_files e h)
files_no_text t o name files before after _ (no_memory h) = no_memory h
