-- Why a function has no run, and what is asked if it has one.
use Rattle.std.specs.Prelude.{◌≡◌, ◌≢◌, ℕ, List, [], length, take, Contains, false, Some, None, slice_get}
use Rattle.isle_core.specs.declared.values.Callee.{Callee}
use Rattle.isle_core.specs.Value.{Value}
use Rattle.isle_core.specs.Meaning.{Meaning}
use Rattle.isle_tree.specs.declared.tree.TypeItem.{TypeItem}
use Rattle.isle_tree.specs.Program.{Function, Program}
use Rattle.isle_tree.specs.Run.{function_of}
use Rattle.isle_interpreter.specs.declared.run_error.RunError.{RunError}
use Rattle.isle_interpreter.specs.declared.run_error.RunError.TheVariants as error
use Rattle.isle_places.specs.Signatures.{type_names}
use Rattle.isle_interpreter.specs.Named.{IsNamed, AreNamed}
use Rattle.isle_interpreter.specs.Entries.{Entry, entries, IsUnanswered, IsUngiven, IsRight, AreRight}
use Rattle.isle_operand_names.specs.Occurring.{occurs}
use Rattle.isle_places.specs.Places.{StandsAt}
use Rattle.isle_tree.specs.Calls.{body_calls}

-- the argument of this number is the first that is no value of its parameter's type
pub record IsWrongArg (types : List TypeItem) (names : List (List ℕ)) (args : List Value) (i : ℕ) : Type 0 where
  pub name : List ℕ
  pub arg : Value
  pub named : slice_get names i ≡ Some name
  pub given : slice_get args i ≡ Some arg
  pub before : AreNamed types (take i names) (take i args)
  pub wrong : IsNamed types name arg → ⊥

-- the entry of this number is the first wrong one, for a run of the function
pub record IsWrongEntry (p : Program) (f : Function) (m : Meaning) (i : ℕ) : Type 0 where
  pub entry : Entry
  pub found : slice_get (entries m) i ≡ Some entry
  pub before : AreRight p f m [] (take i (entries m))
  pub wrong : IsRight p f m (take i (entries m)) entry → ⊥

-- something that the function calls has no entry, or a name in it that is a constant has none: one that stands at a place whose type
-- the program fixes, and that no type has which occurs
pub data IsMissing (p : Program) (f : Function) (fs : List Entry) : Type 0 where
  no_answers : (callee : Callee) → Contains (body_calls f.body) callee → IsUnanswered callee fs → IsMissing p f fs
  no_value : (name ty : List ℕ) → StandsAt p f name ty → occurs p name ≡ false → IsUngiven name fs → IsMissing p f fs

-- each callee of the function has an entry
abbrev pub AreAnswered : Function → List Entry → Type 0
AreAnswered f fs = (callee : Callee) → Contains (body_calls f.body) callee → IsUnanswered callee fs → ⊥

-- each constant that stands in the function has an entry, if the program fixes the type of a place of it
abbrev pub AreGiven : Program → Function → List Entry → Type 0
AreGiven p f fs = (name ty : List ℕ) → StandsAt p f name ty → occurs p name ≡ false → IsUngiven name fs → ⊥

-- the term, the arguments and the answers fit the function
pub record MayRun (p : Program) (term : List ℕ) (args : List Value) (m : Meaning) (f : Function) : Type 0 where
  pub found : function_of term p.fns ≡ Some f
  pub typed : AreNamed p.types (type_names f.params) args
  pub right : AreRight p f m [] (entries m)
  pub answered : AreAnswered f (entries m)
  pub given : AreGiven p f (entries m)

-- why they don't, in the order in which it is asked
pub data IsRefused (p : Program) (term : List ℕ) (args : List Value) (m : Meaning) : RunError → Type 0 where
  no_term : function_of term p.fns ≡ None → IsRefused p term args m error.NoTerm
  arg_count : (f : Function) → function_of term p.fns ≡ Some f → length args ≢ length f.params → IsRefused p term args m error.ArgCount
  arg_type : (f : Function) (i : ℕ) → function_of term p.fns ≡ Some f → length args ≡ length f.params → IsWrongArg p.types (type_names f.params) args i
      → IsRefused p term args m (error.ArgType i)
  wrong_entry : (f : Function) (i : ℕ) → function_of term p.fns ≡ Some f → AreNamed p.types (type_names f.params) args → IsWrongEntry p f m i
      → IsRefused p term args m (error.BadAnswers i)
  missing : (f : Function) → function_of term p.fns ≡ Some f → AreNamed p.types (type_names f.params) args → AreRight p f m [] (entries m) → IsMissing p f (entries m)
      → IsRefused p term args m (error.BadAnswers (length (entries m)))
