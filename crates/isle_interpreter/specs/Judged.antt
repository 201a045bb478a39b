-- What is known of entries, and of calls that need them.
use Rattle.std.specs.Prelude.{◌≡◌, ◌⊎◌, ℕ, List, [], length, Some}
use Rattle.isle_core.specs.Value.{Value}
use Rattle.isle_core.specs.Meaning.{Meaning}
use Rattle.isle_tree.specs.Program.{Function, Program}
use Rattle.isle_tree.specs.Run.{function_of}
use Rattle.isle_interpreter.specs.declared.run_error.RunError.{RunError}
use Rattle.isle_interpreter.specs.declared.run_error.RunError.TheVariants as error
use Rattle.isle_interpreter.specs.Entries.{entries, AreRight}
use Rattle.isle_interpreter.specs.Refusals.{IsWrongEntry, IsMissing, MayRun}
use Rattle.isle_places.specs.Signatures.{type_names}
use Rattle.isle_interpreter.specs.Named.{AreNamed}

-- a refusal before any entry is looked at
abbrev pub IsEarly : RunError → Type 0
IsEarly error.NoTerm = Unit {0}
IsEarly error.ArgCount = Unit {0}
IsEarly (error.ArgType i) = Unit {0}
IsEarly (error.BadAnswers i) = ⊥
IsEarly error.Memory = ⊥

-- why not all entries are right for a run of the function, or want of memory
abbrev pub AreWrong : Program → Function → Meaning → RunError → Type 0
AreWrong p f m error.NoTerm = ⊥
AreWrong p f m error.ArgCount = ⊥
AreWrong p f m (error.ArgType i) = ⊥
AreWrong p f m (error.BadAnswers i) = IsWrongEntry p f m i
AreWrong p f m error.Memory = Unit {0}

-- why the entries don't do for a function, or want of memory
abbrev pub AreBad : Program → Function → Meaning → RunError → Type 0
AreBad p f m error.NoTerm = ⊥
AreBad p f m error.ArgCount = ⊥
AreBad p f m (error.ArgType i) = ⊥
AreBad p f m (error.BadAnswers i) = IsWrongEntry p f m i ⊎ (AreRight p f m [] (entries m) × IsMissing p f (entries m) × (i ≡ length (entries m)))
AreBad p f m error.Memory = Unit {0}

-- the function of the term takes the arguments
pub record Takes (p : Program) (term : List ℕ) (args : List Value) : Type 0 where
  pub function : Function
  pub found : function_of term p.fns ≡ Some function
  pub typed : AreNamed p.types (type_names function.params) args

-- the term, the arguments and the answers fit the function of the term
pub record Runs (p : Program) (term : List ℕ) (args : List Value) (m : Meaning) : Type 0 where
  pub function : Function
  pub may : MayRun p term args m function
