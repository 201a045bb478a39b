-- The reply to a line, by what the line asks for.
use Rattle.std.proofs.Common.{◌≡◌, ℕ, List, Option, Result, Ok, Err, refl, sym, subst}
use Rattle.std.specs.Prelude.{IfOk, IfErr, String}
use Rattle.std.specs.String.{string_bytes}
use Rattle.std.specs.declared.alloc.Global.{Global}
use Rattle.isle_outside.specs.Directory.{Contents, Counts}
use Rattle.isle_core.specs.declared.options.CodegenOptions.{CodegenOptions}
use Rattle.isle_codegen.specs.Causes.{AllTried, IsCompiled, HasCause}
use Rattle.isle_codegen.specs.declared.file_error.FileError.{FileError}
use Rattle.isle_build.specs.Built.{IsBuilt}
use Rattle.isle_build.specs.UnitSource.{tracked_of}
use Rattle.isle_command_line.specs.Request.{Request, Running, Build, Compile, Prelude, Isa, Sample, Run}
use Rattle.isle_command_line.specs.declared.commands.Kind.{Kind}
use Rattle.isle_settings.specs.Groups.{settings_of}
use Rattle.isle_settings.specs.TargetLines.{IsGroupText}
use Rattle.isle_settings.specs.declared.isa.Isa as targets
use Rattle.isle_meta.specs.declared.tables.Tables.{Tables}
use Rattle.isle_top.specs.declared.refusal.Refusal.{Refusal}
use Rattle.isle_top.specs.declared.refusal.Refusal.TheVariants as refusal
use Rattle.isle_top.specs.Job.{Around, surroundings, IsReply}
use Rattle.isle_top.specs.Jobs.{job_of}
use Rattle.isle_top.specs.PreludeLine.{IsPrelude, FailsToWrite}
use Rattle.isle_top.specs.RunLine.{GivesLines, run_inputs}
use Rattle.isle_top.specs.SampleLine.{sample_source, AreCounts}
use Rattle.isle_top.specs.Showing.{running}
use Rattle.isle_top.specs.Sourcing.{sourcing_of}
use Rattle.isle_top.specs.Tabling.{handed, had}
use Rattle.isle_top.specs.Wants.{IsEarly}
use Rattle.isle_top.proofs.HadLaws.{names_fail}
use Rattle.isle_top.proofs.Tries.{none_tried}

-- why a line isn't answered is why the line that it is isn't
pub line_fails : {T : Type 0} (tables : Tables) (request other : Request) (around : Around) (result : Result T Refusal) → request ≡ other
    → IfErr result (λ e. (job_of tables other).fails e around) → IfErr result (λ e. (job_of tables request).fails e around)
line_fails tables request other around result is h = subst (λ q. IfErr result (λ e. (job_of tables q).fails e around)) (sym is) h

-- the counts of a sample
pub sample_replies : {E : Type 0} (tables : Tables) (request : Request) (size : ℕ) (files : Option Contents) (counts : Counts) (result : Result (String Global) E) → request ≡ Sample size
    → IfOk result (λ lines. AreCounts (sample_source size) (string_bytes lines)) → IfOk result (λ lines. IsReply (job_of tables request) (surroundings files counts counts) (string_bytes lines))
sample_replies tables request size files counts (Ok lines) is gives =
    subst (λ q. IsReply (job_of tables q) (surroundings files counts counts) (string_bytes lines)) (sym is) (record { gives = gives; tried = none_tried counts })
sample_replies tables request size files counts (Err e) is gives = tt

-- what a target has
pub isa_replies : {E : Type 0} (tables : Tables) (request : Request) (target : targets.Isa) (files : Option Contents) (counts : Counts) (result : Result (String Global) E) → request ≡ Isa target
    → IfOk result (λ text. IsGroupText (settings_of target) (string_bytes text)) → IfOk result (λ text. IsReply (job_of tables request) (surroundings files counts counts) (string_bytes text))
isa_replies tables request target files counts (Ok text) is gives =
    subst (λ q. IsReply (job_of tables q) (surroundings files counts counts) (string_bytes text)) (sym is) (record { gives = gives; tried = none_tried counts })
isa_replies tables request target files counts (Err e) is gives = tt

-- what is shown of a run
pub run_replies : {E : Type 0} (tables : Tables) (request : Request) (r : Running) (around : Around) (result : Result (String Global) E) → request ≡ Run r
    → IfOk result (λ text. GivesLines (sourcing_of (handed tables) r.options r.source) (running r) around.files (string_bytes text))
    → IfOk result (λ text. AllTried (run_inputs (sourcing_of (handed tables) r.options r.source) r.answers) around.before around.after)
    → IfOk result (λ text. IsReply (job_of tables request) around (string_bytes text))
run_replies tables request r around (Ok text) is gives tried = subst (λ q. IsReply (job_of tables q) around (string_bytes text)) (sym is) (record { gives = gives; tried = tried })
run_replies tables request r around (Err e) is gives tried = tt

-- the text of a unit's program
pub build_replies : {E : Type 0} (tables : Tables) (request : Request) (options : CodegenOptions) (unit : List ℕ) (around : Around) (result : Result (String Global) E) → request ≡ Build options unit
    → IfOk result (λ text. IsBuilt tables options unit around.files (string_bytes text)) → IfOk result (λ text. AllTried (tracked_of unit) around.before around.after)
    → IfOk result (λ text. IsReply (job_of tables request) around (string_bytes text))
build_replies tables request options unit around (Ok text) is gives tried =
    subst (λ q. IsReply (job_of tables q) around (string_bytes text)) (sym is)
    (record { gives = record { source = gives.source; is_source = (tables, refl, gives.is_source); compiles = gives.compiles; header = gives.header }; tried = tried })
build_replies tables request options unit around (Err e) is gives tried = tt

module _ (tables : Tables) (request : Request) (options : CodegenOptions) (names : List (List ℕ)) (around : Around) (is : request ≡ Compile options names) where
  -- the text of a program of files
  pub compile_replies : (text : List ℕ) → IsCompiled options names around.files text → AllTried names around.before around.after → IsReply (job_of tables request) around text
  compile_replies text gives tried =
      subst (λ q. IsReply (job_of tables q) around text) (sym is)
      (record { gives = record { source = gives.source; is_source = gives.read; compiles = gives.compiles; header = gives.header }; tried = tried })

  -- why there is none
  pub compile_fails : (e : FileError) → HasCause e options around.files names around.before around.after → (job_of tables request).fails (refusal.Files e) around
  compile_fails e h = subst (λ q. (job_of tables q).fails (refusal.Files e) around) (sym is) (names_fail options names around.files around.before around.after e h)

-- the text of a prelude
pub prelude_replies : {E : Type 0} (tables : Tables) (request : Request) (kind : Kind) (files : Option Contents) (counts : Counts) (result : Result (String Global) E) → request ≡ Prelude kind
    → IfOk result (λ text. IsPrelude tables kind (string_bytes text)) → IfOk result (λ text. IsReply (job_of tables request) (surroundings files counts counts) (string_bytes text))
prelude_replies tables request kind files counts (Ok text) is gives =
    subst (λ q. IsReply (job_of tables q) (surroundings files counts counts) (string_bytes text)) (sym is) (record { gives = (tables, refl, gives); tried = none_tried counts })
prelude_replies tables request kind files counts (Err e) is gives = tt

-- why there is none
pub prelude_fails : {T : Type 0} (tables : Tables) (request : Request) (kind : Kind) (files : Option Contents) (counts : Counts) (result : Result T Refusal) → request ≡ Prelude kind → IfErr result (FailsToWrite kind tables)
    → IfErr result (λ e. (job_of tables request).fails e (surroundings files counts counts))
prelude_fails tables request kind files counts (Ok x) is h = tt
prelude_fails tables request kind files counts (Err e) is h = subst (λ q. (job_of tables q).fails e (surroundings files counts counts)) (sym is) (had tables e refl (none_tried counts) h)

-- where the directory is as it was, no refusal asked it
pub never_asked : {T : Type 0} (result : Result T Refusal) (P : Type 0) → P → IfErr result (λ e. IsEarly e → P)
never_asked (Ok x) P p = tt
never_asked (Err e) P p = λ early. p
