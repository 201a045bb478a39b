-- Steps of the code's run as those of the definition.
use Rattle.std.specs.Prelude.{◌≡◌, ℕ, List, [], ◌∷◌, ◌++◌, Bool, true, false, Option, Some, None, if◌then◌else◌, option_map, slice_get, drop}
use Rattle.isle_core.specs.Answered.{Item, Held, Absent, One, Optional, Listed, a_value}
use Rattle.isle_core.specs.Value.{Value, Variant, Struct, FieldValues}
use Rattle.isle_tree.specs.Program.{Arms, Body}
use Rattle.isle_tree.specs.declared.tree.Operand.{Operand}
use Rattle.isle_tree.specs.declared.tree.Read.{Read}
use Rattle.isle_tree.specs.declared.tree.Stmt.{Stmt as CodeStmt}
use Rattle.isle_tree.specs.declared.tree.TPat.{TPat}
use Rattle.isle_tree.specs.declared.tree.TPat.TheVariants as pattern
use Rattle.isle_tree.specs.Run.{Around, State, Env, Flow, Goes, look, bind, on_list, after_scope, fit, fitted, run_arms, run_items, run_body, read_value, value_in, value_of}
use Rattle.isle_tree.specs.Views.{arms, body}
use Rattle.isle_running.specs.Frames.{Follows}
use Rattle.isle_running.specs.RunViews.{locals, within, state, flow, tested}
use Rattle.isle_running.specs.declared.around.Around.{Around as CodeAround}
use Rattle.isle_running.specs.declared.flow.Flow.{Flow as CodeFlow}
use Rattle.isle_running.specs.declared.frame.Frame.{Frame}

-- from a frame to another the code goes as this does
abbrev pub RunsSo : (Around → Env → State → Flow) → CodeAround → (old new : Frame) → CodeFlow → Type 0
RunsSo go w old new end = go (within w old) (locals old.locals) (state old) ≡ flow end new

-- where a pattern may fit, what follows goes on from the locals after it
abbrev pub FitsSo : Option Env → (old new : Frame) → Bool → Type 0
FitsSo o old new fits =
    (go : Env → Flow) (other : Flow) → fitted o (λ bound. go (locals old.locals ++ bound)) other ≡ (if fits then go (locals new.locals) else other)

-- a local bound to the value that is there, or nothing bound
abbrev pub BindsSo : ℕ → Option Value → (old new : Frame) → Bool → Type 0
BindsSo n (Some v) old new there = (there ≡ true) × (locals new.locals ≡ locals old.locals ++ (n, a_value v) ∷ []) × Follows old new
BindsSo n None old new there = (there ≡ false) × (new.locals ≡ old.locals)

-- a place that holds what a variant makes of fields, where they are there
abbrev pub variant_held : (ty variant : List ℕ) → Option FieldValues → Held
variant_held ty variant None = Absent
variant_held ty variant (Some fs) = a_value (Variant ty variant fs)

-- so of a struct
abbrev pub struct_held : List ℕ → Option FieldValues → Held
struct_held ty None = Absent
struct_held ty (Some fs) = a_value (Struct ty fs)

-- statements, whose bindings are left
abbrev pub run_inside : Body → Around → Env → State → Flow
run_inside inside w env s = after_scope env (run_body w inside env s)

-- statements where a pattern fits, whose bindings are left, and its own; or else what follows
abbrev pub run_arm : TPat → Held → Body → Flow → Around → Env → State → Flow
run_arm pat held inside other w env s = fitted (fit w pat held) (λ bound. after_scope env (run_body w inside (env ++ bound) s)) other

-- statements where a pattern fits, whose bindings are left, and its own
abbrev pub run_where : TPat → Held → Body → Around → Env → State → Flow
run_where pat held inside w env s = run_arm pat held inside (Goes env s) w env s

-- statements where a pattern fits what is read then
abbrev pub run_read : TPat → Read → Body → Around → Env → State → Flow
run_read pat read inside w env s = run_where pat (read_value w env read) inside w env s

-- the first arm that fits what is read then
abbrev pub run_match : Read → Arms → Around → Env → State → Flow
run_match read arms w env s = run_arms w arms (read_value w env read) env s

-- what is left to run of an arm that is chosen, where there is one, once its pattern has bound
abbrev pub chosen_arm : Option (TPat × List CodeStmt) → CodeAround → (old new : Frame) → Flow
chosen_arm (Some arm) w old new = after_scope (locals old.locals) (run_body (within w new) (body arm.1) (locals new.locals) (state new))
chosen_arm None w old new = Goes (locals new.locals) (state new)

-- arms go as the one at this place does
abbrev pub Chosen : List (TPat × List CodeStmt) → Held → CodeAround → (old new : Frame) → ℕ → Type 0
Chosen cases h w old new place = run_arms (within w old) (arms cases) h (locals old.locals) (state old) ≡ chosen_arm (slice_get cases place) w old new

-- how the test of two operands goes
abbrev pub test : Around → Env → (a b : Operand) → Option Bool
test w env a b = tested (value_in (value_of w env a)) (value_in (value_of w env b))

-- what is within an option that a place holds, where something is
abbrev pub item_within : Held → Option Item
item_within (Optional o) = o
item_within (One i) = None
item_within (Listed is) = None
item_within Absent = None

-- a field of this name that a place holds, where it holds a value
abbrev pub field_read : List ℕ → Held → Option (List ℕ × Value)
field_read name h = option_map (λ (v : Value). (name, v)) (value_in h)

-- ---- lists

-- the items of a list that a place holds, where it holds one
abbrev pub list_in : Held → Option (List Item)
list_in (Listed is) = Some is
list_in (One i) = None
list_in (Optional o) = None
list_in Absent = None

-- the item of this number of a list that a place holds, as an option
abbrev pub item_at : ℕ → Held → Held
item_at index (Listed is) = Optional (slice_get is index)
item_at index (One i) = Absent
item_at index (Optional o) = Absent
item_at index Absent = Absent

-- the turn of a loop that has this number: statements where the item is there, their bindings and its own are left
abbrev pub run_turn : (list item index : ℕ) → Body → Around → Env → State → Flow
run_turn list item index inside w env s = run_where (pattern.Some (Some item)) (item_at index (look env list)) inside w env s

-- the turns of a loop from this number on
abbrev pub run_turns : (list item index : ℕ) → Body → Around → Env → State → Flow
run_turns list item index inside w env s = on_list (look env list) (λ is. run_items (λ i t. run_body w inside (bind env item (One i)) t) env (drop index is) s)

-- a loop over the list that a local holds
abbrev pub run_loop : (list item : ℕ) → Body → Around → Env → State → Flow
run_loop list item inside w env s = on_list (look env list) (λ is. run_items (λ i t. run_body w inside (bind env item (One i)) t) env is s)
