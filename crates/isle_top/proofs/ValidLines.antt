-- A valid line has no refusal but want of memory, if no call of the directory fails; what a refusal tells is there.
use Rattle.std.proofs.Common.{◌≡◌, ◌⊎◌, ℕ, List, [], Option, Some, None, Result, Ok, Err, sym, ◌∙◌, subst, inl, inr}
use Rattle.std.specs.Prelude.{IfErr, slice_get}
use Rattle.isle_outside.specs.Directory.{Contents, Rose, Counts}
use Rattle.isle_core.specs.declared.errors.Errors.{Errors}
use Rattle.isle_core.specs.declared.files.Files.{Files}
use Rattle.isle_core.specs.declared.options.CodegenOptions.{CodegenOptions}
use Rattle.isle_codegen.specs.Errors.{IsErrors, HavePlaces}
use Rattle.isle_codegen.specs.declared.file_error.FileError.TheVariants as file
use Rattle.isle_codegen.specs.LawfulEnvironment.{AreAccepted}
use Rattle.isle_codegen.proofs.Accepted.{accepted_none, accepted_named, some_errors}
use Rattle.isle_command_line.specs.Request.{Request, Help, Version, Compile, Build, Prelude, Units, Isa, Sample, Run}
use Rattle.isle_command_line.specs.declared.commands.Kind.{Kind}
use Rattle.isle_command_line.specs.declared.commands.Kind.TheVariants as kind
use Rattle.isle_meta.specs.declared.tables.Tables.{Tables}
use Rattle.isle_table_check.specs.SupportedTables.{AreSupported}
use Rattle.isle_table_check.proofs.TableLaws.{unsupported_apart}
use Rattle.isle_top.specs.declared.refusal.Refusal.{Refusal}
use Rattle.isle_top.specs.declared.refusal.Refusal.TheVariants as refusal
use Rattle.isle_top.specs.CompileLine.{compile_job, FailsToCompile, HoldAccepted, not_had, wrong, misnamed}
use Rattle.isle_top.specs.Inputs.{FailsToHave}
use Rattle.isle_top.specs.Inputs as had
use Rattle.isle_top.specs.Job.{Around, Job}
use Rattle.isle_top.specs.Jobs.{job_of}
use Rattle.isle_top.specs.PreludeLine.{MayBeWritten, FailsByRows, FailsToWrite}
use Rattle.isle_top.specs.RunLine.{answers_names, run_inputs, run_job, IsValidRun, FailsToRun}
use Rattle.isle_top.specs.RunLine as running
use Rattle.isle_top.specs.Showing.{Showing}
use Rattle.isle_top.specs.Sourcing.{Sourcing}
use Rattle.isle_top.specs.Statuses.{IsOfJob}
use Rattle.isle_top.specs.Tabling.{FailsOver, OfTables, handed}
use Rattle.isle_top.specs.Tabling as over
use Rattle.isle_top.specs.Wants.{IsWant}
use Rattle.isle_top.proofs.ReadLaws.{HasText, all_read, answers_there, get_either, named_there, one_answers}
use Rattle.isle_top.proofs.ShowingLaws.{IsShown, run_shown}
use Rattle.isle_top.proofs.SourceLaws.{IsSteady, names_steady, source_steady, unit_steady}

-- these files, and counts before and after
abbrev about : Contents → (before after : Counts) → Around
about fs before after = record { files = Some fs; before = before; after = after }

-- no call of the directory failed
abbrev IsCalm : Counts → Counts → Type 0
IsCalm before after = Rose before.faults after.faults → ⊥

-- ---- lines that read a source

module _ (from : Sourcing) (steady : IsSteady from) (fs : Contents) (before after : Counts) (calm : IsCalm before after) where
  -- each file of a source that is had is there
  source_there : (a : Files) → from.is_source (Some fs) a → (i : ℕ) (name : List ℕ) → slice_get from.inputs i ≡ Some name → HasText fs name
  source_there a h i name e = let r = steady.read fs a h in named_there fs from.inputs r.0 i name r.1 e

  want_had : (a : Files) (e : Refusal) → from.is_source (Some fs) a → FailsToHave from (about fs before after) e → IsWant e
  want_had a _ h (had.early e early) = absurd (steady.never e (about fs before after) (steady.ready (Some fs) a h) early)
  want_had a _ h (had.unread index why ready fails) = absurd (all_read from.inputs fs index why before after (source_there a h) fails calm)
  want_had a _ h (had.memory stands) = tt

  want_compile : (e : Refusal) → HoldAccepted from fs → FailsToCompile from (about fs before after) e → IsWant e
  want_compile _ v (not_had e h) = want_had v.source e v.is_source h
  want_compile _ v (wrong e h) =
      accepted_none h.source e.errors (subst (λ (s : Files). AreAccepted s.file_names s.file_texts) (steady.once fs v.source h.source v.is_source h.is_source) v.accepted) h.holds.errors
  want_compile _ v (misnamed e h) =
      accepted_named h.source.file_names h.source.file_texts e (subst (λ (s : Files). AreAccepted s.file_names s.file_texts) (steady.once fs v.source h.source v.is_source h.is_source) v.accepted) h.holds

  -- each input of a valid run is there
  run_there : (shown : Showing) → IsValidRun from shown fs → (i : ℕ) (name : List ℕ) → slice_get (run_inputs from shown.answers) i ≡ Some name → HasText fs name
  run_there shown v i name e = by (get_either from.inputs (answers_names shown.answers) i name e)
    where
      by : (slice_get from.inputs i ≡ Some name) ⊎ ((j : ℕ) × (slice_get (answers_names shown.answers) j ≡ Some name)) → HasText fs name
      by (inl h) = source_there v.source v.inputs.read i name h
      by (inr h) = answers_there fs shown.answers v.given h.0 name v.inputs.answered h.1

  want_run : (shown : Showing) → IsShown shown → (e : Refusal) → IsValidRun from shown fs → FailsToRun from shown (about fs before after) e → IsWant e
  want_run shown laws _ v (running.early e h) = absurd (steady.never e (about fs before after) v.ready h)
  want_run shown laws _ v (running.unread index why ready h) = absurd (all_read (run_inputs from shown.answers) fs index why before after (run_there shown v) h calm)
  want_run shown laws _ v (running.unshown source given e inputs tried h) =
      let same = steady.once fs v.source source v.inputs.read inputs.read in
      let answers = one_answers fs shown.answers v.given given v.inputs.answered inputs.answered in
      laws.want source given e (subst (λ (text : List ℕ). shown.can source text) answers (subst (λ (s : Files). shown.can s v.given) same v.can)) h
  want_run shown laws _ v (running.memory h) = tt

-- ---- a line that writes a prelude

want_rows : (t : Tables) (e : Refusal) → AreSupported t → FailsByRows t e → IsWant e
want_rows t (refusal.Tables found) v h = absurd (unsupported_apart t found h v)
want_rows t (refusal.Files e) v h = subst (λ x. IsWant (refusal.Files x)) (sym h) tt
want_rows t e v h = absurd h

want_write : (k : Kind) (t : Tables) (e : Refusal) → MayBeWritten k t → FailsToWrite k t e → IsWant e
want_write kind.Numerics t e v h = h
want_write kind.NumericsRust t e v h = h
want_write k t e v h = want_rows t e v h

want_prelude : (t : Tables) (k : Kind) (around : Around) (e : Refusal) → OfTables (handed t) around.files (MayBeWritten k) → FailsOver (handed t) (FailsToWrite k) around e → IsWant e
want_prelude t k around _ v (over.not_had e h) = absurd h
want_prelude t k around _ v (over.had u e are tried h) = want_write k u e (subst (MayBeWritten k) (v.1 ∙ sym are) v.2) h

-- ---- lines

-- a valid line that isn't answered wants memory
pub only_want : (tables : Tables) (request : Request) (e : Refusal) (files : Option Contents) (before after : Counts) → (job_of tables request).valid files → (job_of tables request).fails e (record { files = files; before = before; after = after })
    → (Rose before.faults after.faults → ⊥) → IsWant e
only_want tables Help e files before after v h calm = h
only_want tables Version e files before after v h calm = h
only_want tables (Compile options names) e None before after v h calm = absurd v
only_want tables (Compile options names) e (Some fs) before after v h calm = want_compile _ (names_steady options names) fs before after calm e v h
only_want tables (Build options unit) e None before after v h calm = absurd v
only_want tables (Build options unit) e (Some fs) before after v h calm = want_compile _ (unit_steady tables options unit) fs before after calm e v h
only_want tables (Prelude k) e files before after v h calm = want_prelude tables k _ e v h
only_want tables Units e files before after v h calm = h
only_want tables (Isa target) e files before after v h calm = h
only_want tables (Sample n) e files before after v h calm = h
only_want tables (Run r) e None before after v h calm = absurd v
only_want tables (Run r) e (Some fs) before after v h calm = want_run _ (source_steady tables r.options r.source) fs before after calm _ (run_shown r) e v h

-- so it has its reply, or memory was wanting
pub replied_unless : {T : Type 0} (tables : Tables) (request : Request) (r : Result T Refusal) (files : Option Contents) (before after : Counts) → IfErr r (λ e. (job_of tables request).fails e (record { files = files; before = before; after = after }))
    → (job_of tables request).valid files → (Rose before.faults after.faults → ⊥) → IfErr r IsWant
replied_unless tables request (Ok x) files before after h v calm = tt
replied_unless tables request (Err e) files before after h v calm = only_want tables request e files before after v h calm

-- ---- what is told

-- errors are some, and stand in the files that are reported with them
told_errors : (e : Errors) (names texts : List (List ℕ)) → IsErrors e names texts → HavePlaces e × (e.errors ≡ [] → ⊥)
told_errors e names texts h = (subst (λ fs. HavePlaces (record { errors = e.errors; files = fs })) (sym h.given) h.errors.placed, some_errors (record { file_names = names; file_texts = texts }) e.errors h.errors)

told_compile : (from : Sourcing) → IsSteady from → (options : CodegenOptions) (around : Around) (e : Refusal) → FailsToCompile from around e → IsOfJob (compile_job from options) e
told_compile from steady options around _ (not_had _ (had.early e h)) = steady.told (compile_job from options) e around h
told_compile from steady options around _ (not_had _ (had.unread index why ready h)) = h.0
told_compile from steady options around _ (not_had _ (had.memory h)) = tt
told_compile from steady options around _ (wrong e h) = told_errors e h.source.file_names h.source.file_texts h.holds
told_compile from steady options around _ (misnamed e h) = tt

told_run : (from : Sourcing) → IsSteady from → (shown : Showing) → IsShown shown → (around : Around) (e : Refusal) → FailsToRun from shown around e → IsOfJob (run_job from shown) e
told_run from steady shown laws around _ (running.early e h) = steady.told (run_job from shown) e around h
told_run from steady shown laws around _ (running.unread index why ready h) = h.0
told_run from steady shown laws around _ (running.unshown source given e inputs tried h) = laws.told (run_job from shown) source given e h
told_run from steady shown laws around _ (running.memory h) = tt

told_want : (job : Job) (e : Refusal) → IsWant e → IsOfJob job e
told_want job (refusal.Files file.Memory) h = tt
told_want job (refusal.Run e) h = tt
told_want job e h = absurd h

told_rows : (job : Job) (t : Tables) (e : Refusal) → FailsByRows t e → IsOfJob job e
told_rows job t (refusal.Tables found) h = tt
told_rows job t (refusal.Files e) h = subst (λ x. IsOfJob job (refusal.Files x)) (sym h) tt
told_rows job t e h = absurd h

told_write : (job : Job) (k : Kind) (t : Tables) (e : Refusal) → FailsToWrite k t e → IsOfJob job e
told_write job kind.Numerics t e h = told_want job e h
told_write job kind.NumericsRust t e h = told_want job e h
told_write job k t e h = told_rows job t e h

told_prelude : (job : Job) (t : Tables) (k : Kind) (around : Around) (e : Refusal) → FailsOver (handed t) (FailsToWrite k) around e → IsOfJob job e
told_prelude job t k around _ (over.not_had e h) = absurd h
told_prelude job t k around _ (over.had u e are tried h) = told_write job k u e h

-- what is known of a line that is not answered is there
pub of_job : (tables : Tables) (request : Request) (e : Refusal) (around : Around) → (job_of tables request).fails e around → IsOfJob (job_of tables request) e
of_job tables (Compile options names) e around h = told_compile _ (names_steady options names) options around e h
of_job tables (Build options unit) e around h = told_compile _ (unit_steady tables options unit) options around e h
of_job tables (Prelude k) e around h = told_prelude (job_of tables (Prelude k)) tables k around e h
of_job tables (Run r) e around h = told_run _ (source_steady tables r.options r.source) _ (run_shown r) around e h
of_job tables Help e around h = told_want (job_of tables Help) e h
of_job tables Version e around h = told_want (job_of tables Version) e h
of_job tables Units e around h = told_want (job_of tables Units) e h
of_job tables (Isa target) e around h = told_want (job_of tables (Isa target)) e h
of_job tables (Sample n) e around h = told_want (job_of tables (Sample n)) e h
