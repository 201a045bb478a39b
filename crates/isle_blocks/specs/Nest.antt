-- The steps of a rule: its tests, nested round its lists, its calls and its result.
use Rattle.std.specs.Prelude.{ℕ, List, [], ◌∷◌, ◌++◌, Bool, true, false, ◌&&◌, Option, Some, None, slice_get}
use Rattle.isle_core.specs.declared.BindingId.{BindingId}
use Rattle.isle_core.specs.declared.rule_sets.Binding.{Binding}
use Rattle.isle_core.specs.declared.rule_sets.Constraint.{Constraint}
use Rattle.isle_core.specs.declared.rule_sets.FlatRule.{FlatRule}
use Rattle.isle_core.specs.ArmPlaces.{bound_within}
use Rattle.isle_core.specs.Bindable.{bound_by}
use Rattle.isle_core.specs.Block.{Block, Stop, Step, Control, Match, Equal, Loop, Return, NoArm, Arm}
use Rattle.isle_core.specs.BlockViews.{SeenStep}
use Rattle.isle_blocks.specs.Needed.{is_bound, list_before, needs, parameters_of}

-- ---- calls

-- the first of two, if there is one
abbrev pub or_later : Option BindingId → Option BindingId → Option BindingId
or_later None later = later
or_later (Some b) later = Some b

-- what stands directly after a call: its inner value, or its item
abbrev pub next_of : (inners items : ℕ → Option BindingId) → ℕ → Option BindingId
next_of inners items n = or_later (inners n) (items n)

-- a call, directly before its inner value or its item if it has one
abbrev pub with_inner : Option BindingId → BindingId → List BindingId
with_inner None c = c ∷ []
with_inner (Some b) c = c ∷ b ∷ []

-- a call after what it is made on, and what stands after it
abbrev pub call_binds : List Binding → (ℕ → Option BindingId) → List ℕ → BindingId → List BindingId
call_binds bs next bound c = needs bs bound (parameters_of (slice_get bs c.0)) ++ with_inner (next c.0) c

-- so of calls in order
abbrev pub binds : List Binding → (ℕ → Option BindingId) → List ℕ → List BindingId → List BindingId
binds bs next bound [] = []
binds bs next bound (c ∷ cs) = call_binds bs next bound c ++ binds bs next (bound_by bound (call_binds bs next bound c)) cs

-- a call is bound, and what stands after it
abbrev pub bound_with : List ℕ → BindingId → Option BindingId → Bool
bound_with bound c None = is_bound bound c
bound_with bound c (Some b) = is_bound bound c && is_bound bound b

-- so of a call by its number
abbrev pub was_bound : (ℕ → Option BindingId) → List ℕ → BindingId → Bool
was_bound next bound c = bound_with bound c (next c.0)

-- a call, if it is not bound
abbrev pub left_one : Bool → BindingId → List BindingId
left_one true c = []
left_one false c = c ∷ []

-- the calls that are still to be bound: a test before may have bound a pure one
abbrev pub left_calls : (ℕ → Option BindingId) → List ℕ → List BindingId → List BindingId
left_calls next bound [] = []
left_calls next bound (c ∷ cs) = left_one (was_bound next bound c) c ++ left_calls next bound cs

-- these in order, and then what the result is read with
abbrev pub behind_lists : List Binding → (ℕ → Option BindingId) → List ℕ → FlatRule → List BindingId
behind_lists bs next bound f =
    binds bs next bound (left_calls next bound f.ordered) ++ needs bs (bound_by bound (binds bs next bound (left_calls next bound f.ordered))) (f.result ∷ [])

-- ---- lists

-- the item of a list, if the list isn't one of the calls that are bound in order
abbrev pub left_item : (called : Bool) → Option BindingId → List BindingId
left_item true o = []
left_item false None = []
left_item false (Some b) = b ∷ []

-- the items of such lists
abbrev pub items_left : (ℕ → Option BindingId) → List ℕ → List BindingId → List BindingId
items_left items called [] = []
items_left items called (l ∷ ls) = left_item (is_bound called l) (items l.0) ++ items_left items called ls

-- those of a rule's lists, in a term that answers several times
abbrev pub left_items : (several : Bool) → (ℕ → Option BindingId) → FlatRule → List BindingId
left_items true items f = items_left items (bound_by [] f.ordered) f.iterators
left_items false items f = []

-- the lists that no test needed, and then the calls that no test bound
abbrev pub last_binds : (several : Bool) → List Binding → (next items : ℕ → Option BindingId) → List ℕ → FlatRule → List BindingId
last_binds several bs next items bound f = needs bs bound (left_items several items f) ++ behind_lists bs next (bound_by bound (needs bs bound (left_items several items f))) f

-- ---- bind orders

-- a block of one step
abbrev pub alone : SeenStep → Block
alone s = Step s.0 s.1 Stop

-- a binding before a step: an item of a list is gone through by a Loop
abbrev pub open_by : (list : Option BindingId) → BindingId → SeenStep → SeenStep
open_by (Some list) b s = ([], Loop b (alone s))
open_by None b s = (b ∷ s.0, s.1)

-- so of the binding of this form
abbrev pub open_one : Option Binding → BindingId → SeenStep → SeenStep
open_one o b s = open_by (list_before o) b s

-- so of each binding of an order, before what is done then
abbrev pub opening : List Binding → List BindingId → Control → SeenStep
opening bs [] c = ([], c)
opening bs (b ∷ order) c = open_one (slice_get bs b.0) b (opening bs order c)

-- a step: in a term that answers once all of the order is bound before
abbrev pub opened : (several : Bool) → List Binding → List BindingId → Control → SeenStep
opened true bs order c = opening bs order c
opened false bs order c = (order, c)

-- ---- rules

-- a rule's lists, its calls and its result
abbrev pub last_step : (several : Bool) → List Binding → (next items : ℕ → Option BindingId) → FlatRule → List ℕ → SeenStep
last_step several bs next items f bound = opened several bs (last_binds several bs next items bound f) (Return f.pos f.result)

-- what a constraint on a source shows, by its places
abbrev pub Shows : Type 0
Shows = BindingId → Constraint → List (Option BindingId)

-- what follows if these are bound
abbrev pub Behind : Type 0
Behind = List ℕ → SeenStep

-- a match of one arm, which binds the parts that are shown, after what its source is read with
abbrev pub matched : (several : Bool) → List Binding → Shows → List ℕ → BindingId × Constraint → Behind → SeenStep
matched several bs shows bound c inner =
    opened several bs (needs bs bound (c.0 ∷ [])) (Match c.0 (Arm c.1 (shows c.0 c.1) (alone (inner (bound_within (bound_by bound (needs bs bound (c.0 ∷ []))) (shows c.0 c.1)))) NoArm))

-- an equality, after what its sides are read with
abbrev pub equated : (several : Bool) → List Binding → List ℕ → BindingId × BindingId → Behind → SeenStep
equated several bs bound e inner = opened several bs (needs bs bound (e.0 ∷ e.1 ∷ [])) (Equal e.0 e.1 (alone (inner (bound_by bound (needs bs bound (e.0 ∷ e.1 ∷ []))))))

-- matches, each round those after it
abbrev pub all_matched : (several : Bool) → List Binding → Shows → List (BindingId × Constraint) → Behind → Behind
all_matched several bs shows [] inner bound = inner bound
all_matched several bs shows (c ∷ cs) inner bound = matched several bs shows bound c (all_matched several bs shows cs inner)

-- equalities, each round those after it
abbrev pub all_equated : (several : Bool) → List Binding → List (BindingId × BindingId) → Behind → Behind
all_equated several bs [] inner bound = inner bound
all_equated several bs (e ∷ es) inner bound = equated several bs bound e (all_equated several bs es inner)
