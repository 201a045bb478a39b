-- Why the files of a source aren't had.
use Rattle.std.proofs.Common.{◌≡◌, ℕ, List, [], ◌∷◌, Bool, true, false, Option, Some, Result, Ok, Err, refl, sym, ap, subst}
use Rattle.std.specs.Prelude.{IfOk, IfErr, String, is_some}
use Rattle.std.specs.String.{string_bytes}
use Rattle.std.specs.declared.alloc.Global.{Global}
use Rattle.isle_build.specs.Built.{FailsToBuild, FailsToRead, IsReadUnit}
use Rattle.isle_build.specs.Built as build
use Rattle.isle_build.specs.UnitSource.{IsSourceOfUnit, unit_named}
use Rattle.isle_build.specs.declared.build_error.BuildError.{BuildError}
use Rattle.isle_build.specs.declared.build_error.BuildError.TheVariants as error
use Rattle.isle_codegen.specs.Causes.{AllTried, AreSource, HasCause, printed}
use Rattle.isle_codegen.specs.Errors.{IsErrors, IsNameError}
use Rattle.isle_codegen.specs.declared.file_error.FileError.{FileError}
use Rattle.isle_codegen.specs.declared.file_error.FileError.TheVariants as file
use Rattle.isle_command_line.specs.declared.commands.Source.{Source}
use Rattle.isle_command_line.specs.declared.commands.Source.TheVariants as source
use Rattle.isle_core.specs.Inputs.{Fails}
use Rattle.isle_core.specs.declared.files.Files.{Files}
use Rattle.isle_core.specs.declared.options.CodegenOptions.{CodegenOptions}
use Rattle.isle_core.specs.declared.read_error.ReadError.{ReadError}
use Rattle.isle_core.specs.declared.read_error.ReadError.TheVariants as read
use Rattle.isle_meta.specs.declared.errors.Unsupported.{Unsupported}
use Rattle.isle_meta.specs.declared.tables.Tables.{Tables}
use Rattle.isle_outside.specs.Directory.{Contents, Counts}
use Rattle.isle_run.specs.Trial.{IsTrial}
use Rattle.isle_run.specs.declared.trials.TrialFail.{TrialFail}
use Rattle.isle_run.specs.declared.trials.TrialFail.TheVariants as fail
use Rattle.isle_trace.specs.Trace.{IsTracedTrial}
use Rattle.isle_units.specs.Units.{inputs_of}
use Rattle.isle_units.specs.declared.compilation.IsleCompilation.{IsleCompilation}
use Rattle.isle_values.specs.Written.{Writtens}
use Rattle.isle_top.specs.declared.refusal.Refusal.{Refusal}
use Rattle.isle_top.specs.declared.refusal.Refusal.TheVariants as refusal
use Rattle.isle_top.specs.Built.{of_build}
use Rattle.isle_top.specs.Inputs.{FailsToHave, early, unread, memory}
use Rattle.isle_top.specs.Job.{Around, surroundings}
use Rattle.isle_top.specs.CompileLine.{FailsToCompile, IsRead}
use Rattle.isle_top.specs.CompileLine as compile
use Rattle.isle_top.specs.RunLine.{of_read}
use Rattle.isle_top.specs.Showing.{of_trial, Shows}
use Rattle.isle_top.specs.Sourcing.{from_names, from_unit, sourcing_of}
use Rattle.isle_top.specs.Sourcing as sourcing
use Rattle.isle_top.specs.Tabling.{handed, had, unsupported}
use Rattle.isle_top.specs.Wants.{IsEarly}
use Rattle.isle_top.proofs.SourceLaws.{of_tracked}
use Rattle.isle_top.proofs.Tries.{none_tried}

-- a file that is named wasn't read
pub had_read : (options : CodegenOptions) (names : List (List ℕ)) (files : Option Contents) (before after : Counts) (e : ReadError) (r : Refusal) → r ≡ of_read e → Fails e files names before after
    → FailsToHave (from_names options names) (surroundings files before after) r
had_read options names files before after (read.Io index why) r is h = subst (FailsToHave (from_names options names) (surroundings files before after)) (sym is) (unread index why tt h)
had_read options names files before after read.Memory r is h = subst (FailsToHave (from_names options names) (surroundings files before after)) (sym is) (memory h)

-- counts stand where a row isn't supported
abbrev pub IsCalm : BuildError → (before after : Counts) → Type 0
IsCalm e before after = (found : Unsupported) → e ≡ error.Unsupported found → after ≡ before

module _ (t : Tables) (options : CodegenOptions) (unit : List ℕ) (files : Option Contents) (before after : Counts) where
  -- the files of a unit aren't had
  unit_not_had : (e : BuildError) → IsCalm e before after → FailsToRead t unit files before after e → FailsToHave (from_unit (handed t) options unit) (surroundings files before after) (of_build e)
  unit_not_had _ calm (build.no_unit is) = early refusal.NoUnit (sourcing.no_unit is)
  unit_not_had _ calm (build.listed u _ is (build.unsupported found first)) =
      early (refusal.Tables found) (sourcing.no_tables (refusal.Tables found) (ap is_some is)
      (had t (refusal.Tables found) refl (subst (λ c. AllTried [] before c) (sym (calm found refl)) (none_tried before)) (unsupported found first)))
  unit_not_had _ calm (build.listed u _ is (build.unread index why supported h)) =
      unread index why (ap is_some is, (t, refl, supported)) (of_tracked unit u (λ (names : List (List ℕ)). Fails (read.Io index why) files names before after) is h)
  unit_not_had _ calm (build.listed u _ is (build.memory h)) = memory h
  unit_not_had _ calm (build.no_memory h) = memory h

  pub had_unit : (e : BuildError) (r : Refusal) → r ≡ of_build e → IsCalm e before after → FailsToRead t unit files before after e → FailsToHave (from_unit (handed t) options unit) (surroundings files before after) r
  had_unit e r is calm h = subst (FailsToHave (from_unit (handed t) options unit) (surroundings files before after)) (sym is) (unit_not_had e calm h)

  -- the files of a unit were read
  unit_is_read : (u : IsleCompilation) (P : (names texts : List (List ℕ)) → Type 0) → unit_named unit ≡ Some u → IsReadUnit t options files before after P u
      → IsRead (from_unit (handed t) options unit) (surroundings files before after) P
  unit_is_read u P is h = record {
    source = record { file_names = printed options (inputs_of u); file_texts = h.texts };
    is_source = (t, refl, record { unit = u; listed = is; is_source = record { supported = h.supported; named = refl; texts = h.are_texts } });
    tried = of_tracked unit u (λ (names : List (List ℕ)). AllTried names before after) is h.tried;
    holds = h.holds;
  }

  -- a unit isn't built
  unit_fails : (e : BuildError) → IsCalm e before after → FailsToBuild t options unit files before after e → FailsToCompile (from_unit (handed t) options unit) (surroundings files before after) (of_build e)
  unit_fails _ calm (build.no_unit is) = compile.not_had refusal.NoUnit (unit_not_had error.NoUnit calm (build.no_unit is))
  unit_fails _ calm (build.listed u _ is (build.no_files e h)) = compile.not_had (of_build e) (unit_not_had e calm (build.listed u e is h))
  unit_fails _ calm (build.listed u _ is (build.wrong e h)) = compile.wrong e (unit_is_read u (IsErrors e) is h)
  unit_fails _ calm (build.listed u _ is (build.misnamed e h)) = compile.misnamed e (unit_is_read u (λ names texts. IsNameError names texts e) is h)
  unit_fails _ calm (build.no_memory h) = compile.not_had (refusal.Files file.Memory) (memory h)

  pub not_built : (e : BuildError) (r : Refusal) → r ≡ of_build e → IsCalm e before after → FailsToBuild t options unit files before after e → FailsToCompile (from_unit (handed t) options unit) (surroundings files before after) r
  not_built e r is calm h = subst (FailsToCompile (from_unit (handed t) options unit) (surroundings files before after)) (sym is) (unit_fails e calm h)

-- files that are named give no text
pub names_fail : (options : CodegenOptions) (names : List (List ℕ)) (files : Option Contents) (before after : Counts) (e : FileError) → HasCause e options files names before after
    → FailsToCompile (from_names options names) (surroundings files before after) (refusal.Files e)
names_fail options names files before after (file.Io index why) h = compile.not_had (refusal.Files (file.Io index why)) (unread index why tt h)
names_fail options names files before after (file.Errors e) h = compile.wrong e (record {
  source = record { file_names = printed options names; file_texts = h.1.texts };
  is_source = record { named = refl; read = h.1.read };
  tried = h.0;
  holds = h.1.errors;
})
names_fail options names files before after (file.Name e) h = compile.misnamed e (record {
  source = record { file_names = printed options names; file_texts = h.1.texts };
  is_source = record { named = refl; read = h.1.read };
  tried = h.0;
  holds = h.1.error;
})
names_fail options names files before after file.Memory h = compile.not_had (refusal.Files file.Memory) (memory h)

-- ---- what comes before any call of the directory

-- an early refusal of a unit is of one that isn't listed, or of tables
pub early_build : (e : BuildError) (r : Refusal) (P : Type 0) → r ≡ of_build e → (e ≡ error.NoUnit → P) → ((found : Unsupported) → e ≡ error.Unsupported found → P) → IsEarly r → P
early_build e r P is unlisted unasked h = by e unlisted unasked (subst IsEarly is h)
  where
    by : (e : BuildError) → (e ≡ error.NoUnit → P) → ((found : Unsupported) → e ≡ error.Unsupported found → P) → IsEarly (of_build e) → P
    by error.NoUnit u s h = u refl
    by (error.Unsupported found) u s h = s found refl
    by (error.Io index why) u s h = absurd h
    by (error.Errors e) u s h = absurd h
    by (error.Name e) u s h = absurd h
    by error.Memory u s h = absurd h

-- an input that isn't read comes later
pub read_late : (e : ReadError) (r : Refusal) → r ≡ of_read e → IsEarly r → ⊥
read_late e r is h = by e (subst IsEarly is h)
  where
    by : (e : ReadError) → IsEarly (of_read e) → ⊥
    by (read.Io index why) h = h
    by read.Memory h = h

-- so does a run without lines
pub trial_late : (source : Files) (e : TrialFail) (r : Refusal) → r ≡ of_trial source e → IsEarly r → ⊥
trial_late source e r is h = by e (subst IsEarly is h)
  where
    by : (e : TrialFail) → IsEarly (of_trial source e) → ⊥
    by (fail.Source e) h = h
    by (fail.Run e) h = h

-- ---- the source that a word names

pub file_read : {E : Type 0} (t : Tables) (options : CodegenOptions) (s : Source) (name : List ℕ) (fs : Option Contents) (result : Result Files E) → s ≡ source.File name
    → IfOk result (λ files. AreSource options (name ∷ []) fs files) → IfOk result ((sourcing_of (handed t) options s).is_source fs)
file_read t options s name fs result is h = subst (λ q. IfOk result ((sourcing_of (handed t) options q).is_source fs)) (sym is) h

pub unit_read : {E : Type 0} (t : Tables) (options : CodegenOptions) (s : Source) (name : List ℕ) (fs : Option Contents) (result : Result Files E) → s ≡ source.Unit name
    → IfOk result (λ files. IsSourceOfUnit t options name fs files) → IfOk result ((sourcing_of (handed t) options s).is_source fs)
unit_read t options s name fs (Ok files) is h = subst (λ q. (sourcing_of (handed t) options q).is_source fs files) (sym is) (t, refl, h)
unit_read t options s name fs (Err e) is h = tt

-- or why it isn't had
pub source_not_had : {T : Type 0} (t : Tables) (options : CodegenOptions) (s : Source) (name : List ℕ) (around : Around) (result : Result T Refusal) → s ≡ source.Unit name
    → IfErr result (FailsToHave (from_unit (handed t) options name) around) → IfErr result (FailsToHave (sourcing_of (handed t) options s) around)
source_not_had t options s name around result is h = subst (λ q. IfErr result (FailsToHave (sourcing_of (handed t) options q) around)) (sym is) h

-- what is shown, by whether a run is traced
pub shows_traced : {E : Type 0} (trace : Bool) (options : CodegenOptions) (files : Files) (term : List ℕ) (ws : Writtens) (given : List ℕ) (result : Result (String Global) E) → trace ≡ true
    → IfOk result (λ text. IsTracedTrial options files term ws given (string_bytes text)) → IfOk result (λ text. Shows trace options files term ws given (string_bytes text))
shows_traced trace options files term ws given result is h = subst (λ (t : Bool). IfOk result (λ text. Shows t options files term ws given (string_bytes text))) (sym is) h

pub shows_lines : {E : Type 0} (trace : Bool) (options : CodegenOptions) (files : Files) (term : List ℕ) (ws : Writtens) (given : List ℕ) (result : Result (String Global) E) → trace ≡ false
    → IfOk result (λ text. IsTrial options files term ws given (string_bytes text)) → IfOk result (λ text. Shows trace options files term ws given (string_bytes text))
shows_lines trace options files term ws given result is h = subst (λ (t : Bool). IfOk result (λ text. Shows t options files term ws given (string_bytes text))) (sym is) h
