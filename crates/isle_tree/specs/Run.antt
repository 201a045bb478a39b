-- What the function of a term does, by cases on the forms of statements.
use Rattle.std.specs.Prelude.{ℕ, nat_le, ◌+◌, List, [], ◌∷◌, ◌++◌, ◌==◌, ◌&&◌, length, Bool, true, false, Option, Some, None, slice_get, fold, if◌then◌else◌}
use Rattle.isle_core.specs.Value.{Value, Truth, Int, Opaque, Variant, Struct, FieldValues, NoField, Field, Made, End, Gives, GivesSome, GivesNone, IsUnreachable, GivesList, Ran}
use Rattle.isle_core.specs.SameInRun.{same_in_run}
use Rattle.isle_core.specs.Meaning.{Meaning}
use Rattle.isle_core.specs.Having.{const_of}
use Rattle.isle_core.specs.Answered.{Item, AValue, ATuple, Held, Absent, One, Optional, Listed, a_value, an_option, answer_held}
use Rattle.isle_core.specs.ValueAt.{held, value_before}
use Rattle.isle_core.specs.declared.types.ReturnKind.{ReturnKind}
use Rattle.isle_core.specs.declared.types.ReturnKind.TheVariants as kind
use Rattle.isle_core.specs.declared.values.Callee.{Callee}
use Rattle.isle_printer.specs.Bytes.{same_bytes}
use Rattle.isle_tree.specs.declared.tree.Operand.{Operand}
use Rattle.isle_tree.specs.declared.tree.Operand.TheVariants as operand
use Rattle.isle_tree.specs.declared.tree.Read.{Read}
use Rattle.isle_tree.specs.declared.tree.Read.TheVariants as read
use Rattle.isle_tree.specs.declared.tree.TExpr.{TExpr}
use Rattle.isle_tree.specs.declared.tree.TBind.{TBind}
use Rattle.isle_tree.specs.declared.tree.TPat.{TPat}
use Rattle.isle_tree.specs.declared.tree.TPat.TheVariants as pattern
use Rattle.isle_tree.specs.declared.tree.TExpr.TheVariants as expr
use Rattle.isle_tree.specs.Caller.{Called, Answered, Ended, Unanswered, Caller, by_meaning}
use Rattle.isle_tree.specs.Program.{Stmt, Let, LetList, IfEq, IfLet, Match, Loop, Return, Extend, Overflow, Log, Split, Tail, Body, Done, Then, Arms, NoArm, Arm, Function, Program}

-- what a function runs in: who answers its calls, what constants stand for, the program, the function itself, its arguments, and how long its
-- list of results is at entry; without that number the list is never full
pub record Around : Type 0 where
  pub caller : Caller
  pub meaning : Meaning
  pub program : Program
  pub function : Function
  pub args : List Value
  pub held : Option ℕ

-- what was done so far: the calls made, and the results given
pub record State : Type 0 where
  pub made : List Made
  pub given : List Value

-- nothing was done
abbrev pub nothing_done : State
nothing_done = record { made = []; given = [] }

-- a result more
abbrev pub one_given : State → Value → State
one_given s v = record { made = s.made; given = s.given ++ v ∷ [] }

-- what each local holds, the newest last
abbrev pub Env : Type 0
Env = List (ℕ × Held)

-- how statements end: they go on to what follows, the function ends, the closure around them is left, or what is read isn't
-- there
pub data Flow : Type 0 where
  Goes : Env → State → Flow
  Ends : End → State → Flow
  Leaves : State → Flow
  Stuck : Flow

-- ---- values

-- what is bound last counts
abbrev pub newer : ℕ → Held → ℕ × Held → Held
newer n h bound = if bound.0 == n then bound.1 else h

-- what a local holds
abbrev pub look : Env → ℕ → Held
look env n = fold (newer n) Absent env

-- a local more
abbrev pub bind : Env → ℕ → Held → Env
bind env n h = env ++ (n, h) ∷ []

-- the value of a constant, or else the unit struct of the name
abbrev pub name_value : Option Value → List ℕ → Value
name_value (Some v) name = v
name_value None name = Struct name NoField

-- what an operand holds; a number of a primitive type has no type's name in a run
abbrev pub value_of : Around → Env → Operand → Held
value_of w env (operand.Local n) = look env n
value_of w env (operand.Arg n) = held (slice_get w.args n)
value_of w env (operand.Bool b) = a_value (Truth b)
value_of w env (operand.Int ty z) = a_value (Int ty z)
value_of w env (operand.Raw z) = a_value (Opaque [] z)
value_of w env (operand.Name name) = a_value (name_value (const_of w.meaning name) name)

-- what is read; `&` and `.clone()` mean the value
abbrev pub read_value : Around → Env → Read → Held
read_value w env (read.Plain o) = value_of w env o
read_value w env (read.Borrow o) = value_of w env o
read_value w env (read.Clone o) = value_of w env o

-- the values that are read, if all are
abbrev pub read_values : Around → Env → List Read → Option (List Value)
read_values w env [] = Some []
read_values w env (r ∷ rs) = value_before (read_value w env r) (read_values w env rs)

-- a field of this name before others, if it holds a value and so do they
abbrev pub field_before : List ℕ → Held → Option FieldValues → Option FieldValues
field_before name (One (AValue v)) (Some fs) = Some (Field name v fs)
field_before name (One (AValue v)) None = None
field_before name (One (ATuple vs)) o = None
field_before name Absent o = None
field_before name (Optional i) o = None
field_before name (Listed is) o = None

-- the values that are read as fields, under their names, if all are
abbrev pub read_fields : Around → Env → List (List ℕ × Read) → Option FieldValues
read_fields w env [] = Some NoField
read_fields w env (f ∷ fs) = field_before f.0 (read_value w env f.1) (read_fields w env fs)

-- what follows a value
abbrev pub on_value : Held → (Value → Flow) → Flow
on_value (One (AValue v)) go = go v
on_value (One (ATuple vs)) go = Stuck
on_value (Optional o) go = Stuck
on_value (Listed is) go = Stuck
on_value Absent go = Stuck

-- what follows if something is there
abbrev pub on_held : Held → (Held → Flow) → Flow
on_held (One i) go = go (One i)
on_held (Optional o) go = go (Optional o)
on_held (Listed is) go = go (Listed is)
on_held Absent go = Stuck

-- what follows a list
abbrev pub on_list : Held → (List Item → Flow) → Flow
on_list (Listed is) go = go is
on_list (One i) go = Stuck
on_list (Optional o) go = Stuck
on_list Absent go = Stuck

-- ---- patterns

-- the value that a place holds, if it is one
abbrev pub value_in : Held → Option Value
value_in (One (AValue v)) = Some v
value_in (One (ATuple vs)) = None
value_in Absent = None
value_in (Optional o) = None
value_in (Listed is) = None

-- the value that a constant of a pattern stands for; locals and arguments are no constants
abbrev pub constant : Meaning → Operand → Option Value
constant m (operand.Bool b) = Some (Truth b)
constant m (operand.Int ty z) = Some (Int ty z)
constant m (operand.Raw z) = Some (Opaque [] z)
constant m (operand.Name name) = Some (name_value (const_of m name) name)
constant m (operand.Local n) = None
constant m (operand.Arg n) = None

-- whether both values are there and are equal in a run
abbrev pub are_same : Option Value → Option Value → Bool
are_same (Some v) (Some u) = same_in_run v u
are_same (Some v) None = false
are_same None u = false

-- Some(..) fits an option of something, and binds what is within it
abbrev pub fit_some : Option ℕ → Held → Option Env
fit_some None (Optional (Some i)) = Some []
fit_some (Some n) (Optional (Some i)) = Some ((n, One i) ∷ [])
fit_some local (Optional None) = None
fit_some local Absent = None
fit_some local (One i) = None
fit_some local (Listed is) = None

-- the value of the first field of this name
abbrev pub field_of : List ℕ → FieldValues → Option Value
field_of name NoField = None
field_of name (Field other v fs) = if same_bytes name other then Some v else field_of name fs

-- a local bound to a field's value before others, if all are there
abbrev pub local_before : ℕ → Option Value → Option Env → Option Env
local_before n (Some v) (Some env) = Some ((n, a_value v) ∷ env)
local_before n (Some v) None = None
local_before n None o = None

-- the locals that the fields are bound to, in order, where each field is there
abbrev pub fit_fields : List TBind → FieldValues → Option Env
fit_fields [] fs = Some []
fit_fields (b ∷ bs) fs = local_before b.local (field_of b.field fs) (fit_fields bs fs)

-- a variant's pattern fits what that variant makes; an opaque number is none
abbrev pub fit_variant : (ty variant : List ℕ) → List TBind → Option Value → Option Env
fit_variant ty variant binds (Some (Variant of name fs)) = if same_bytes ty of && same_bytes variant name then fit_fields binds fs else None
fit_variant ty variant binds (Some (Truth b)) = None
fit_variant ty variant binds (Some (Int of z)) = None
fit_variant ty variant binds (Some (Opaque of z)) = None
fit_variant ty variant binds (Some (Struct of fs)) = None
fit_variant ty variant binds None = None

-- a struct's pattern fits what that struct makes
abbrev pub fit_struct : List ℕ → List TBind → Option Value → Option Env
fit_struct ty binds (Some (Struct of fs)) = if same_bytes ty of then fit_fields binds fs else None
fit_struct ty binds (Some (Truth b)) = None
fit_struct ty binds (Some (Int of z)) = None
fit_struct ty binds (Some (Opaque of z)) = None
fit_struct ty binds (Some (Variant of name fs)) = None
fit_struct ty binds None = None

-- what a pattern binds, if it fits what is read; `ref` and `..` mean nothing
abbrev pub fit : Around → TPat → Held → Option Env
fit w (pattern.Const o) h = if are_same (value_in h) (constant w.meaning o) then Some [] else None
fit w (pattern.Some local) h = fit_some local h
fit w (pattern.Variant ty variant binds more) h = fit_variant ty variant binds (value_in h)
fit w (pattern.Struct ty binds more) h = fit_struct ty binds (value_in h)

-- what follows if a pattern fits, or if it doesn't
abbrev pub fitted : Option Env → (Env → Flow) → Flow → Flow
fitted (Some bound) go other = go bound
fitted None go other = other

-- ---- statements

-- what follows goes on from there
abbrev pub then_run : Flow → (Env → State → Flow) → Flow
then_run (Goes env s) go = go env s
then_run (Ends end s) go = Ends end s
then_run (Leaves s) go = Leaves s
then_run Stuck go = Stuck

-- what was bound inside is gone after it
abbrev pub after_scope : Env → Flow → Flow
after_scope env (Goes inner s) = Goes env s
after_scope env (Ends end s) = Ends end s
after_scope env (Leaves s) = Leaves s
after_scope env Stuck = Stuck

-- a local bound to what a place holds
abbrev pub run_bind : ℕ → Held → Env → State → Flow
run_bind n h env s = on_held h (λ g. Goes (bind env n g) s)

-- what a call leaves: its local holds the answer, or the function ends as the whole run does
abbrev pub run_called : ℕ → Called → Env → State → Flow
run_called n (Answered a made) env s = run_bind n (answer_held a) env (record { made = made; given = s.given })
run_called n (Ended end made) env s = Ends end (record { made = made; given = s.given })
run_called n Unanswered env s = Stuck

-- a call with these arguments
abbrev pub run_call : Around → ℕ → Callee → Option (List Value) → Env → State → Flow
run_call w n callee None env s = Stuck
run_call w n callee (Some vs) env s = run_called n (w.caller callee vs s.made) env s

-- ? gives what is within an option; over nothing the function ends with nothing
abbrev pub run_try : ℕ → Held → Env → State → Flow
run_try n (Optional (Some i)) env s = Goes (bind env n (One i)) s
run_try n (Optional None) env s = Ends GivesNone s
run_try n (One i) env s = Stuck
run_try n (Listed is) env s = Stuck
run_try n Absent env s = Stuck

-- a local bound to what a variant makes of its fields
abbrev pub run_variant : ℕ → (ty variant : List ℕ) → Option FieldValues → Env → State → Flow
run_variant n ty variant None env s = Stuck
run_variant n ty variant (Some fs) env s = Goes (bind env n (a_value (Variant ty variant fs))) s

-- a local bound to what a struct makes of its fields
abbrev pub run_struct : ℕ → List ℕ → Option FieldValues → Env → State → Flow
run_struct n ty None env s = Stuck
run_struct n ty (Some fs) env s = Goes (bind env n (a_value (Struct ty fs))) s

-- the value of a part of a tuple, if it has that part
abbrev pub part_of : ℕ → Held → Option Value
part_of part (One (AValue v)) = None
part_of part (One (ATuple vs)) = slice_get vs part
part_of part Absent = None
part_of part (Optional o) = None
part_of part (Listed is) = None

-- a local bound to a value, if it is there
abbrev pub run_part : ℕ → Option Value → Env → State → Flow
run_part n None env s = Stuck
run_part n (Some v) env s = Goes (bind env n (a_value v)) s

-- a let binds what is computed; a & means the value
abbrev pub run_let : Around → ℕ → TExpr → Env → State → Flow
run_let w n (expr.Read r) env s = run_bind n (read_value w env r) env s
run_let w n (expr.Some r) env s = on_value (read_value w env r) (λ v. Goes (bind env n (an_option (Some v))) s)
run_let w n (expr.Call borrow call) env s = run_call w n call.callee (read_values w env call.args) env s
run_let w n (expr.Try source as_ref) env s = run_try n (value_of w env source) env s
run_let w n (expr.Variant ty variant fields) env s = run_variant n ty variant (read_fields w env fields) env s
run_let w n (expr.Struct ty fields) env s = run_struct n ty (read_fields w env fields) env s
run_let w n (expr.Tuple source part) env s = run_part n (part_of part (value_of w env source)) env s

-- the function ends with the value or the option of one that a place holds
abbrev pub ends_with : Held → State → Flow
ends_with (One (AValue v)) s = Ends (Gives v) s
ends_with (One (ATuple vs)) s = Stuck
ends_with (Optional (Some (AValue v))) s = Ends (GivesSome v) s
ends_with (Optional (Some (ATuple vs))) s = Stuck
ends_with (Optional None) s = Ends GivesNone s
ends_with (Listed is) s = Stuck
ends_with Absent s = Stuck

-- a return gives what is read, or an option of it
abbrev pub run_return : Around → TExpr → Env → State → Flow
run_return w (expr.Read r) env s = ends_with (read_value w env r) s
run_return w (expr.Some r) env s = on_value (read_value w env r) (λ v. Ends (GivesSome v) s)
run_return w (expr.Call borrow call) env s = Stuck
run_return w (expr.Try source as_ref) env s = Stuck
run_return w (expr.Variant ty variant fields) env s = Stuck
run_return w (expr.Struct ty fields) env s = Stuck
run_return w (expr.Tuple source part) env s = Stuck

-- what is done with each item of a list, in order; what was bound meanwhile is gone after it
abbrev pub run_items : (Item → State → Flow) → Env → List Item → State → Flow
run_items go env [] s = Goes env s
run_items go env (i ∷ is) s = then_run (go i s) (λ inner t. run_items go env is t)

-- the list of results, which had so many at entry and was given these, has reached the limit
abbrev pub is_full : Option ℕ → (limit : ℕ) → List Value → Bool
is_full None limit given = false
is_full (Some held) limit given = nat_le limit (held + length given)

-- if the list is full, the closure around is left, or else the function ends with its results
abbrev pub stops : (inside : Bool) → State → Flow
stops true s = Leaves s
stops false s = Ends (GivesList s.given) s

-- after a closure what was bound in it is gone; if it was left, the closure around it is left too, or else the function ends
abbrev pub after_closure : (inside : Bool) → Env → Flow → Flow
after_closure inside env (Goes inner s) = Goes env s
after_closure inside env (Ends end s) = Ends end s
after_closure inside env (Leaves s) = stops inside s
after_closure inside env Stuck = Stuck

-- a tail gives nothing, or is not to be reached
abbrev pub tail_end : Option (List ℕ × List ℕ) → End
tail_end None = GivesNone
tail_end (Some texts) = IsUnreachable

-- a statement, and statements in order; a match runs the first arm whose pattern fits; a log line means nothing
abbrev mutual
  pub run_stmt : Around → Stmt → Env → State → Flow
  run_stmt w (Let n e) env s = run_let w n e env s
  run_stmt w (LetList n call) env s = run_call w n call.callee (read_values w env call.args) env s
  run_stmt w (IfEq a b inside) env s =
      on_value (value_of w env a) (λ v. on_value (value_of w env b) (λ u.
      if same_in_run v u then after_scope env (run_body w inside env s) else Goes env s))
  run_stmt w (IfLet pat r inside) env s = fitted (fit w pat (read_value w env r)) (λ bound. after_scope env (run_body w inside (env ++ bound) s)) (Goes env s)
  run_stmt w (Match r arms) env s = run_arms w arms (read_value w env r) env s
  run_stmt w (Loop list item inside) env s = on_list (look env list) (λ is. run_items (λ i t. run_body w inside (bind env item (One i)) t) env is s)
  run_stmt w (Return e) env s = run_return w e env s
  run_stmt w (Extend r) env s = on_value (read_value w env r) (λ v. Goes env (one_given s v))
  run_stmt w (Overflow inside limit) env s = if is_full w.held limit s.given then stops inside s else Goes env s
  run_stmt w (Log term place) env s = Goes env s
  run_stmt w (Split inner inside) env s = after_closure inside env (run_body w inner env s)
  run_stmt w (Tail texts) env s = Ends (tail_end texts) s

  pub run_body : Around → Body → Env → State → Flow
  run_body w Done env s = Goes env s
  run_body w (Then t ts) env s = then_run (run_stmt w t env s) (run_body w ts)

  -- the arms of a match over what is read
  pub run_arms : Around → Arms → Held → Env → State → Flow
  run_arms w NoArm h env s = Goes env s
  run_arms w (Arm pat inside arms) h env s =
      fitted (fit w pat h) (λ bound. after_scope env (run_body w inside (env ++ bound) s)) (run_arms w arms h env s)

-- ---- functions

-- a function that goes on after its last statement ends with its results, if it gives several; any other has no end there
abbrev pub runs_out : ReturnKind → State → Option Ran
runs_out kind.Plain s = None
runs_out kind.Option s = None
runs_out kind.Iterator s = Some (record { end = GivesList s.given; calls = s.made })

-- the end of a function of the kind; a body that leaves a closure if there is none, or is stuck, has none
abbrev pub ended : ReturnKind → Flow → Option Ran
ended of (Goes env s) = runs_out of s
ended of (Ends end s) = Some (record { end = end; calls = s.made })
ended of (Leaves s) = None
ended of Stuck = None

-- the function of a term
abbrev pub function_of : List ℕ → List Function → Option Function
function_of term [] = None
function_of term (f ∷ fs) = if same_bytes term f.term then Some f else function_of term fs

-- what a function of a program runs in, if its list of results has this length at entry
abbrev pub around : Program → Meaning → List Value → (held : Option ℕ) → Function → Around
around p m args held f = record { caller = by_meaning m; meaning = m; program = p; function = f; args = args; held = held }

-- the run of a function whose list of results has this length at entry
abbrev pub held_run : Program → Meaning → List Value → (held : Option ℕ) → Function → Option Ran
held_run p m args held f = ended f.kind (run_body (around p m args held f) f.body [] nothing_done)

-- the run of a function in its program, if there is one
abbrev pub function_run : Program → Meaning → (held : ℕ) → List Value → Option Function → Option Ran
function_run p m held args None = None
function_run p m held args (Some f) = held_run p m args (Some held) f

-- the run of the function of a term in a program, if there is one
abbrev pub run : Program → List ℕ → List Value → Meaning → (held : ℕ) → Option Ran
run p term args m held = function_run p m held args (function_of term p.fns)
