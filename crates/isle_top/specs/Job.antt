-- What a line is, whatever it asks for.
use Rattle.std.specs.Prelude.{ℕ, List, Bool, Option}
use Rattle.isle_outside.specs.Directory.{Contents, Counts}
use Rattle.isle_outside.specs.Sinks.{Took, TookPart}
use Rattle.isle_codegen.specs.Causes.{AllTried}
use Rattle.isle_top.specs.declared.refusal.Refusal.{Refusal}

-- what a line has around it: the files, if the directory tells them, and the directory's counts before and after
pub record Around : Type 0 where
  pub files : Option Contents
  pub before : Counts
  pub after : Counts

-- these files, and these counts before and after
abbrev pub surroundings : Option Contents → (before after : Counts) → Around
surroundings files before after = record { files = files; before = before; after = after }

-- what a line is: whether it reads files; the names of its inputs in the order in which they are read, the name that it
-- asks for beside them, and that of its unit, if it has one; when the files are valid for it; which texts answer it; and why it isn't answered
pub record Job : Type 1 where
  pub reads : Bool
  pub inputs : List (List ℕ)
  pub asked : List ℕ
  pub unit : List ℕ
  pub valid : Option Contents → Type 0
  pub gives : Option Contents → List ℕ → Type 0
  pub fails : Refusal → Around → Type 0

-- a text answers a line, and each of its inputs was asked for once, with no fault
pub record IsReply (job : Job) (around : Around) (text : List ℕ) : Type 0 where
  pub gives : job.gives around.files text
  pub tried : AllTried job.inputs around.before around.after

-- a sink took a text that answers the line, and nothing else
abbrev pub TookReply : Job → Around → (old new : Option (List ℕ)) → Type 0
TookReply job around old new = (text : List ℕ) × IsReply job around text × Took old new text

-- it took a part of such a text, and not all
abbrev pub TookPartOfReply : Job → Around → (old new : Option (List ℕ)) → Type 0
TookPartOfReply job around old new = (text : List ℕ) × IsReply job around text × TookPart old new text
