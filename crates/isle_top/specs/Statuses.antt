-- The statuses that a run ends with, and what each says.
use Rattle.std.specs.Prelude.{◌≡◌, ◌⊎◌, ℕ, ◌<◌, List, [], length, Some, IsSomeAnd, slice_get}
use Rattle.isle_core.specs.ErrorLines.{shown_lines}
use Rattle.isle_core.specs.declared.errors.Errors.{Errors}
use Rattle.isle_codegen.specs.Errors.{HavePlaces}
use Rattle.isle_codegen.specs.declared.file_error.FileError.TheVariants as file
use Rattle.isle_command_line.specs.Request.{Request}
use Rattle.isle_command_line.specs.Lines.{IsBad, IsMissing}
use Rattle.isle_meta.specs.declared.tables.Tables.{Tables}
use Rattle.isle_run.specs.declared.run_fail.RunFail.{RunFail}
use Rattle.isle_run.specs.declared.run_fail.RunFail.TheVariants as run
use Rattle.isle_top.specs.declared.refusal.Refusal.{Refusal}
use Rattle.isle_top.specs.declared.refusal.Refusal.TheVariants as refusal
use Rattle.isle_top.specs.Errors.{errors_status}
use Rattle.isle_top.specs.Job.{Around, Job}
use Rattle.isle_top.specs.Jobs.{job_of}
use Rattle.isle_top.specs.Wants.{IsWant}
use Rattle.isle_top.specs.Lines.{bad_line, missing_word_line, no_unit_line, unread_line, unsupported_line, bad_name_line, no_term_line, count_line, argument_line, answers_line, write_fault_line, memory_line}

-- an input that is not read is one of the line, and errors are some and stand in the files that are reported with them
abbrev pub IsOfJob : Job → Refusal → Type 0
IsOfJob job (refusal.Files (file.Io index why)) = index < length job.inputs
IsOfJob job (refusal.Files (file.Errors e)) = HavePlaces e × (e.errors ≡ [] → ⊥)
IsOfJob job (refusal.Files (file.Name e)) = Unit {0}
IsOfJob job (refusal.Files file.Memory) = Unit {0}
IsOfJob job refusal.NoUnit = Unit {0}
IsOfJob job (refusal.Tables found) = Unit {0}
IsOfJob job (refusal.Run e) = Unit {0}

-- this status was given, and this line written
abbrev pub Tells : (wrote : List ℕ → Type 0) → (status : ℕ) → ℕ → List ℕ → Type 0
Tells wrote status n line = (status ≡ n) × wrote line

-- what is known of errors: the status of the first, and the lines of all
abbrev pub TellsErrors : (wrote : List ℕ → Type 0) → (status : ℕ) → Errors → Type 0
TellsErrors wrote status e = (errors_status e.errors ≡ Some status) × wrote (shown_lines e.files e.errors)

-- what is known of a term that is not run
abbrev pub TellsRun : Job → (wrote : List ℕ → Type 0) → (status : ℕ) → RunFail → Type 0
TellsRun job wrote status run.NoTerm = Tells wrote status 13 (no_term_line job.asked)
TellsRun job wrote status run.ArgCount = Tells wrote status 13 count_line
TellsRun job wrote status (run.ArgType i) = Tells wrote status 13 (argument_line i)
TellsRun job wrote status (run.BadAnswers at) = Tells wrote status 13 (answers_line at)
TellsRun job wrote status run.Memory = Tells wrote status 12 memory_line

-- what is known of a line that is not answered: its status, and what `err` took
abbrev pub TellsRefusal : Job → (wrote : List ℕ → Type 0) → (status : ℕ) → Refusal → Type 0
TellsRefusal job wrote status refusal.NoUnit = Tells wrote status 3 (no_unit_line job.unit)
TellsRefusal job wrote status (refusal.Tables found) = Tells wrote status 4 (unsupported_line found.row found.shape)
TellsRefusal job wrote status (refusal.Files (file.Io index why)) = IsSomeAnd (slice_get job.inputs index) (λ name. Tells wrote status 5 (unread_line name why))
TellsRefusal job wrote status (refusal.Files (file.Errors e)) = TellsErrors wrote status e
TellsRefusal job wrote status (refusal.Files (file.Name e)) = Tells wrote status 10 (bad_name_line e.name e.usage)
TellsRefusal job wrote status (refusal.Files file.Memory) = Tells wrote status 12 memory_line
TellsRefusal job wrote status (refusal.Run e) = TellsRun job wrote status e

-- how a line ends that is not answered: as is told of it; or, of errors whose lines memory doesn't hold, as for want of memory
abbrev pub Ends : Job → (wrote : List ℕ → Type 0) → (status : ℕ) → Refusal → Type 0
Ends job wrote status (refusal.Files (file.Errors e)) = TellsErrors wrote status e ⊎ Tells wrote status 12 memory_line
Ends job wrote status e = TellsRefusal job wrote status e

-- the first word with which no line continues was written, or that one is missing
pub data IsNoLine (words : List (List ℕ)) (wrote : List ℕ → Type 0) : Type 0 where
  bad : (i : ℕ) → IsBad words i → IsSomeAnd (slice_get words i) (λ word. wrote (bad_line words i word)) → IsNoLine words wrote
  missing : IsMissing words → wrote missing_word_line → IsNoLine words wrote

-- what a status says: the text was written, and nothing else; the words are no line; the line that is asked for is
-- not answered, for a cause other than want of memory; the output failed; memory ran out. All but the first write their line
pub data Says (tables : Tables) (asks : Request → Type 0) (none : Type 0) (around : Around) (quiet : Type 0) (wrote : List ℕ → Type 0) : ℕ → Type 0 where
  done : quiet → Says tables asks none around quiet wrote 0
  no_line : none → Says tables asks none around quiet wrote 2
  refused : (request : Request) (e : Refusal) (status : ℕ) → (IsWant e → ⊥) → asks request → (job_of tables request).fails e around → TellsRefusal (job_of tables request) wrote status e
      → Says tables asks none around quiet wrote status
  write_fault : wrote write_fault_line → Says tables asks none around quiet wrote 11
  no_memory : wrote memory_line → Says tables asks none around quiet wrote 12
