-- What a refusal says and writes.
use Rattle.std.proofs.Common.{◌≡◌, ◌⊎◌, ℕ, zero, suc, ◌+◌, ◌<◌, length, List, [], ◌∷◌, drop, Option, Some, None, Result, Ok, Err, refl, sym, subst, inl, inr, arith}
use Rattle.std.specs.Prelude.{IsSomeAnd, slice_get, OnOk, OnErr}
use Rattle.std.proofs.lemmas.List.{take-append-drop}
use Rattle.std.proofs.lemmas.Option.{same_Some}
use Rattle.isle_outside.specs.Directory.{Rose}
use Rattle.isle_outside.specs.Sinks.{Took, TookPart}
use Rattle.isle_outside.specs.declared.errors.IoCause.{IoCause}
use Rattle.isle_core.specs.declared.errors.Error.{Error}
use Rattle.isle_core.specs.declared.errors.Error.TheVariants as error
use Rattle.isle_codegen.specs.declared.file_error.FileError.TheVariants as file
use Rattle.isle_command_line.specs.Request.{Request}
use Rattle.isle_command_line.specs.Lines.{LineS, IsBad}
use Rattle.isle_meta.specs.declared.tables.Tables.{Tables}
use Rattle.isle_run.specs.declared.run_fail.RunFail.{RunFail}
use Rattle.isle_run.specs.declared.run_fail.RunFail.TheVariants as run
use Rattle.isle_top.specs.declared.refusal.Refusal.{Refusal}
use Rattle.isle_top.specs.declared.refusal.Refusal.TheVariants as refusal
use Rattle.isle_top.specs.Job.{Around, Job}
use Rattle.isle_top.specs.Jobs.{job_of}
use Rattle.isle_top.specs.Errors.{error_status, errors_status}
use Rattle.isle_top.specs.Lines.{Wrote, bad_line, memory_line, unread_line}
use Rattle.isle_top.specs.Statuses.{IsNoLine, Tells, TellsRun, Says, Ends}
use Rattle.isle_top.specs.Statuses as statuses
use Rattle.isle_top.specs.Wants.{IsEarly, IsWant}

-- a line was written, or a front of it
pub wrote : {T E : Type 0} (r : Result T E) (old new : Option (List ℕ)) (before after : ℕ) (line : List ℕ) → OnOk r (Took old new line) → OnErr r (TookPart old new line) → OnErr r (Rose before after) → Wrote old new before after line
wrote (Ok t) old new before after line h k r = inl h
wrote (Err e) old new before after line h k r = inr (k, r)

-- what is said of the name at a number, if there is one
at_number : (names : List (List ℕ)) (i : ℕ) (P : List ℕ → Type 0) → i < length names → ((name : List ℕ) → slice_get names i ≡ Some name → P name) → IsSomeAnd (slice_get names i) P
at_number [] i P lt f = absurd (omega (arith, lt))
at_number (name ∷ names) zero P lt f = f name refl
at_number (name ∷ names) (suc i) P lt f = at_number names i P (omega (arith, lt)) f

module _ {tables : Tables} {asks : Request → Type 0} {none : Type 0} {around : Around} {quiet : Type 0} {wrote : List ℕ → Type 0} (request : Request) (status : ℕ) (asked : asks request) where
  -- memory ran out
  says_want : Tells wrote status 12 memory_line → Says tables asks none around quiet wrote status
  says_want h = subst (Says tables asks none around quiet wrote) (sym h.0) (statuses.no_memory h.1)

  -- what is said of a term that is not run
  says_run : (e : RunFail) → (job_of tables request).fails (refusal.Run e) around → TellsRun (job_of tables request) wrote status e → Says tables asks none around quiet wrote status
  says_run run.NoTerm cause told = statuses.refused request (refusal.Run run.NoTerm) status (λ same. absurd cc) asked cause told
  says_run run.ArgCount cause told = statuses.refused request (refusal.Run run.ArgCount) status (λ same. absurd cc) asked cause told
  says_run (run.ArgType i) cause told = statuses.refused request (refusal.Run (run.ArgType i)) status (λ same. absurd cc) asked cause told
  says_run (run.BadAnswers at) cause told = statuses.refused request (refusal.Run (run.BadAnswers at)) status (λ same. absurd cc) asked cause told
  says_run run.Memory cause told = says_want told

  -- what is said of a line that is not answered
  pub says_end : (e : Refusal) → (job_of tables request).fails e around → Ends (job_of tables request) wrote status e → Says tables asks none around quiet wrote status
  says_end (refusal.Files (file.Errors e)) cause (inl told) = statuses.refused request (refusal.Files (file.Errors e)) status (λ want. want) asked cause told
  says_end (refusal.Files (file.Errors e)) cause (inr told) = says_want told
  says_end (refusal.Files file.Memory) cause told = says_want told
  says_end (refusal.Run e) cause told = says_run e cause told
  says_end e cause told = statuses.refused request e status (λ want. want) asked cause told

-- a status is none of a line that is answered
abbrev IsRefused : ℕ → Type 0
IsRefused status = (status ≡ 0 → ⊥) × (status ≡ 11 → ⊥)

-- and none that comes before any call of the directory
abbrev IsLate : ℕ → Type 0
IsLate status = IsRefused status × (status ≡ 3 → ⊥) × (status ≡ 4 → ⊥)

told_refused : (status n : ℕ) → IsRefused n → status ≡ n → IsRefused status
told_refused status n h e = subst IsRefused (sym e) h

told_late : (status n : ℕ) → IsLate n → status ≡ n → IsLate status
told_late status n h e = subst IsLate (sym e) h

three : IsRefused 3
three = ((λ e. cc), (λ e. cc))

four : IsRefused 4
four = ((λ e. cc), (λ e. cc))

five : IsLate 5
five = (((λ e. cc), (λ e. cc)), (λ e. cc), (λ e. cc))

ten : IsLate 10
ten = (((λ e. cc), (λ e. cc)), (λ e. cc), (λ e. cc))

twelve : IsLate 12
twelve = (((λ e. cc), (λ e. cc)), (λ e. cc), (λ e. cc))

thirteen : IsLate 13
thirteen = (((λ e. cc), (λ e. cc)), (λ e. cc), (λ e. cc))

error_late : (e : Error) → IsLate (error_status e)
error_late (error.ParseError msg span) = (((λ e. cc), (λ e. cc)), (λ e. cc), (λ e. cc))
error_late (error.TypeError row msg span) = (((λ e. cc), (λ e. cc)), (λ e. cc), (λ e. cc))
error_late (error.UnreachableError msg span) = (((λ e. cc), (λ e. cc)), (λ e. cc), (λ e. cc))
error_late (error.OverlapError msg rules) = (((λ e. cc), (λ e. cc)), (λ e. cc), (λ e. cc))
error_late (error.ShadowedError shadowed mask) = (((λ e. cc), (λ e. cc)), (λ e. cc), (λ e. cc))
error_late (error.RecursionError msg span) = (((λ e. cc), (λ e. cc)), (λ e. cc), (λ e. cc))

errors_late : (es : List Error) (status : ℕ) → errors_status es ≡ Some status → IsLate status
errors_late [] status h = absurd (let bad : None ≡ Some status = h in cc)
errors_late (e ∷ es) status h = told_late status (error_status e) (error_late e) (sym (same_Some (error_status e) status h))

run_late : (job : Job) (wrote : List ℕ → Type 0) (status : ℕ) (e : RunFail) → TellsRun job wrote status e → IsLate status
run_late job wrote status run.NoTerm h = told_late status 13 thirteen h.0
run_late job wrote status run.ArgCount h = told_late status 13 thirteen h.0
run_late job wrote status (run.ArgType i) h = told_late status 13 thirteen h.0
run_late job wrote status (run.BadAnswers at) h = told_late status 13 thirteen h.0
run_late job wrote status run.Memory h = told_late status 12 twelve h.0

named_late : (wrote : List ℕ → Type 0) (status : ℕ) (why : IoCause) (name : Option (List ℕ)) → IsSomeAnd name (λ n. Tells wrote status 5 (unread_line n why)) → IsLate status
named_late wrote status why None h = absurd h
named_late wrote status why (Some name) h = told_late status 5 five h.0

-- an early refusal ends with a status of no line that is answered; every other one with a late status
end_by : (job : Job) (wrote : List ℕ → Type 0) (status : ℕ) (e : Refusal) → Ends job wrote status e → (IsEarly e × IsRefused status) ⊎ IsLate status
end_by job wrote status refusal.NoUnit h = inl (tt, told_refused status 3 three h.0)
end_by job wrote status (refusal.Tables found) h = inl (tt, told_refused status 4 four h.0)
end_by job wrote status (refusal.Files (file.Io index why)) h = inr (named_late wrote status why (slice_get job.inputs index) h)
end_by job wrote status (refusal.Files (file.Errors e)) (inl h) = inr (errors_late e.errors status h.0)
end_by job wrote status (refusal.Files (file.Errors e)) (inr h) = inr (told_late status 12 twelve h.0)
end_by job wrote status (refusal.Files (file.Name e)) h = inr (told_late status 10 ten h.0)
end_by job wrote status (refusal.Files file.Memory) h = inr (told_late status 12 twelve h.0)
end_by job wrote status (refusal.Run e) h = inr (run_late job wrote status e h)

-- a line that is not answered ends with another status than one that is
pub end_refused : (job : Job) (wrote : List ℕ → Type 0) (status : ℕ) (e : Refusal) → Ends job wrote status e → IsRefused status
end_refused job wrote status e h = by (end_by job wrote status e h)
  where
    by : (IsEarly e × IsRefused status) ⊎ IsLate status → IsRefused status
    by (inl k) = k.1
    by (inr k) = k.0

-- statuses 3 and 4 are those of early refusals
pub end_unlisted : (job : Job) (wrote : List ℕ → Type 0) (status : ℕ) (e : Refusal) → Ends job wrote status e → status ≡ 3 → IsEarly e
end_unlisted job wrote status e h is = by (end_by job wrote status e h)
  where
    by : (IsEarly e × IsRefused status) ⊎ IsLate status → IsEarly e
    by (inl k) = k.0
    by (inr k) = absurd (k.1 is)

pub end_unsupported : (job : Job) (wrote : List ℕ → Type 0) (status : ℕ) (e : Refusal) → Ends job wrote status e → status ≡ 4 → IsEarly e
end_unsupported job wrote status e h is = by (end_by job wrote status e h)
  where
    by : (IsEarly e × IsRefused status) ⊎ IsLate status → IsEarly e
    by (inl k) = k.0
    by (inr k) = absurd (k.2 is)

-- want of memory ends with its status
pub end_want : (job : Job) (wrote : List ℕ → Type 0) (status : ℕ) (e : Refusal) → IsWant e → Ends job wrote status e → status ≡ 12
end_want job wrote status (refusal.Files file.Memory) want h = h.0
end_want job wrote status (refusal.Run e) want h = (subst (TellsRun job wrote status) want h).0
end_want job wrote status e want h = absurd want

-- a word with which no line goes on
pub bad_word : (words : List (List ℕ)) (i : ℕ) (wrote : List ℕ → Type 0) → IsBad words i → ((word : List ℕ) → slice_get words i ≡ Some word → wrote (bad_line words i word)) → IsNoLine words wrote
bad_word words i wrote h f = statuses.bad i h (at_number words i (λ word. wrote (bad_line words i word)) h.found f)

-- words that are a line have none
pub no_bad_word : (words : List (List ℕ)) (i : ℕ) (request : Request) → IsBad words i → LineS words request → ⊥
no_bad_word words i request h line = h.bad (drop (i + 1) words, request, rw take-append-drop line)

-- what is said of a line is said of the words that ask for it
pub says_of : {tables : Tables} {asks others : Request → Type 0} {none fail : Type 0} {around : Around} {quiet : Type 0} {wrote : List ℕ → Type 0} {status : ℕ} → ((request : Request) → asks request → others request) → (none → fail)
    → Says tables asks none around quiet wrote status → Says tables others fail around quiet wrote status
says_of f g (statuses.done h) = statuses.done h
says_of f g (statuses.no_line h) = statuses.no_line (g h)
says_of f g (statuses.refused request e status other a cause told) = statuses.refused request e status other (f request a) cause told
says_of f g (statuses.write_fault h) = statuses.write_fault h
says_of f g (statuses.no_memory h) = statuses.no_memory h
