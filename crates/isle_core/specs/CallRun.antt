-- Running calls in order, with the answers known and the calls made so far.
use Rattle.std.specs.Prelude.{ℕ, List, [], ◌∷◌, ◌++◌, Option, Some, None, if◌then◌else◌}
use Rattle.isle_core.specs.declared.values.Callee.{Callee}
use Rattle.isle_core.specs.Value.{Value, Answer, Made}
use Rattle.isle_core.specs.Meaning.{Meaning, turn}
use Rattle.isle_core.specs.Calling.{Calling, ByTurns, ByCases, NoCall, calling, is_fallible}
use Rattle.isle_core.specs.Answered.{AValue, ATuple, Held, Absent, One, Optional, Listed}
use Rattle.isle_core.specs.Outcome.{Result, Value', Failure, Prescription}
use Rattle.isle_core.specs.Path.{Path, Nowhere, Arg, ConstBool, ConstInt, ConstPrim, Extracted, Called, Chosen, MadeVariant, MadeStruct, VariantField, StructField, Wrapped, Inner, Part}
use Rattle.isle_core.specs.ValueAt.{Known, answered_too, value_at, values_at}
use Rattle.isle_core.specs.Rule.{Environment}

-- a run goes on, with the answers known and the calls made, or it ends
pub data Went : Type 0 where
  Goes : Known → List Made → Went
  Ends : Prescription → Went

-- what follows goes on from there
abbrev pub then_go : Went → (Known → List Made → Went) → Went
then_go (Goes known made) go = go known made
then_go (Ends o) go = Ends o

-- what stands at a result's path
abbrev pub result_of : Held → Result
result_of (One (AValue v)) = Value' v
result_of (One (ATuple vs)) = Failure
result_of Absent = Failure
result_of (Optional o) = Failure
result_of (Listed is) = Failure

-- the run ends with what stands at a path
abbrev pub returns : Environment → Meaning → List Value → Path → Known → List Made → Went
returns env m args p known made = Ends (record { result = result_of (value_at env m args known p); calls = made })

-- an impure call takes its turn; one that is known was made
abbrev pub take_turn : Meaning → Callee → ℕ → Option Answer → Option (List Value) → Known → List Made → Went
take_turn m callee instance (Some a) vs known made = Goes known made
take_turn m callee instance None (Some vs) known made = Goes (answered_too known instance (turn m callee made)) (made ++ record { callee = callee; args = vs } ∷ [])
take_turn m callee instance None None known made = Goes known made

-- a call with these arguments: a pure one has its answer anyway
abbrev pub make_call : Meaning → Calling → ℕ → Option (List Value) → Known → List Made → Went
make_call m (ByTurns callee kind) instance vs known made = take_turn m callee instance (known.answers instance) vs known made
make_call m (ByCases callee kind) instance vs known made = Goes known made
make_call m NoCall instance vs known made = Goes known made

-- the call at a path
abbrev pub make : Environment → Meaning → List Value → Path → Known → List Made → Went
make env m args (Called term ps instance) known made = make_call m (calling env term) instance (values_at env m args known ps) known made
make env m args Nowhere known made = Goes known made
make env m args (Arg i) known made = Goes known made
make env m args (ConstBool of b) known made = Goes known made
make env m args (ConstInt of n) known made = Goes known made
make env m args (ConstPrim name) known made = Goes known made
make env m args (Extracted term q) known made = Goes known made
make env m args (Chosen q) known made = Goes known made
make env m args (MadeVariant of variant ps) known made = Goes known made
make env m args (MadeStruct of ps) known made = Goes known made
make env m args (VariantField variant field q) known made = Goes known made
make env m args (StructField field q) known made = Goes known made
make env m args (Wrapped q) known made = Goes known made
make env m args (Inner q) known made = Goes known made
make env m args (Part part q) known made = Goes known made

-- nothing in place of a value is a failure
abbrev pub unless_nothing : Held → Known → List Made → Went
unless_nothing (Optional None) known made = Ends (record { result = Failure; calls = made })
unless_nothing (Optional (Some i)) known made = Goes known made
unless_nothing Absent known made = Goes known made
unless_nothing (One i) known made = Goes known made
unless_nothing (Listed is) known made = Goes known made

-- a call that may be answered by nothing fails there
abbrev pub check_call : Environment → Meaning → List Value → Path → Known → List Made → Went
check_call env m args (Called term ps instance) known made =
    if is_fallible (calling env term) then unless_nothing (value_at env m args known (Called term ps instance)) known made else Goes known made
check_call env m args Nowhere known made = Goes known made
check_call env m args (Arg i) known made = Goes known made
check_call env m args (ConstBool of b) known made = Goes known made
check_call env m args (ConstInt of n) known made = Goes known made
check_call env m args (ConstPrim name) known made = Goes known made
check_call env m args (Extracted term q) known made = Goes known made
check_call env m args (Chosen q) known made = Goes known made
check_call env m args (MadeVariant of variant ps) known made = Goes known made
check_call env m args (MadeStruct of ps) known made = Goes known made
check_call env m args (VariantField variant field q) known made = Goes known made
check_call env m args (StructField field q) known made = Goes known made
check_call env m args (Wrapped q) known made = Goes known made
check_call env m args (Inner q) known made = Goes known made
check_call env m args (Part part q) known made = Goes known made

-- a call is made and must not fail
abbrev pub run_call : Environment → Meaning → List Value → Path → Known → List Made → Went
run_call env m args p known made = then_go (make env m args p known made) (check_call env m args p)

-- calls in order, a failure ending them
abbrev pub run_calls : Environment → Meaning → List Value → List Path → Known → List Made → Went
run_calls env m args [] known made = Goes known made
run_calls env m args (p ∷ ps) known made = then_go (run_call env m args p known made) (run_calls env m args ps)
