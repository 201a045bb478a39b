-- The values of paths, and when tests hold.
use Rattle.std.specs.Prelude.{ℕ, List, [], ◌∷◌, Bool, true, false, ◌&&◌, Option, Some, None, slice_get}
use Rattle.std.specs.List.{list_all}
use Rattle.isle_core.specs.declared.rule_sets.Constraint.{Constraint}
use Rattle.isle_core.specs.declared.rule_sets.Constraint.TheVariants as constraint
use Rattle.isle_core.specs.Value.{Value, Truth, Answer}
use Rattle.isle_core.specs.SameValue.{same_value}
use Rattle.isle_core.specs.Constants.{int_value}
use Rattle.isle_core.specs.Meaning.{Meaning, case}
use Rattle.isle_core.specs.Calling.{Calling, ByTurns, ByCases, NoCall, calling, extracting}
pub use Rattle.isle_core.specs.Answered.{Item, AValue, ATuple, Held, Absent, One, Optional, Listed, a_value, an_option, answer_held}
use Rattle.isle_core.specs.Having.{const_of}
use Rattle.isle_core.specs.Match.{with}
use Rattle.isle_core.specs.Terms.{sym_text}
use Rattle.isle_core.specs.Making.{Making, MakesVariant, MakesStruct}
use Rattle.isle_core.specs.Form.{made_value, is_made_by, parts}
use Rattle.isle_core.specs.Path.{Path, Nowhere, Arg, ConstBool, ConstInt, ConstPrim, Extracted, Called, Chosen, MadeVariant, MadeStruct, VariantField, StructField, Wrapped, Inner, Part, Paths, NoPath, APath}
use Rattle.isle_core.specs.Tests.{Test, Is, Equal, HasItem}
use Rattle.isle_core.specs.Choice.{Choice, first_items}
use Rattle.isle_core.specs.Rule.{Environment}

-- what the impure calls that were made have answered, by occurrence, and which items of lists are chosen
pub record Known : Type 0 where
  pub answers : ℕ → Option Answer
  pub choice : Choice

-- no impure call was made
abbrev pub none_made : Choice → Known
none_made choice = record { answers = λ instance. None; choice = choice }

-- nor is an item chosen
abbrev pub nothing_known : Known
nothing_known = none_made first_items

-- the answers known with one more
abbrev pub answered_too : Known → ℕ → Answer → Known
answered_too known instance a = record { answers = with known.answers instance a; choice = known.choice }

-- a value, if there is one
abbrev pub held : Option Value → Held
held None = Absent
held (Some v) = a_value v

-- what the answer of a call holds, if it is known
abbrev pub held_of : Option Answer → Held
held_of None = Absent
held_of (Some a) = answer_held a

-- what is within an option
abbrev pub inner_held : Held → Held
inner_held (Optional (Some i)) = One i
inner_held (Optional None) = Absent
inner_held Absent = Absent
inner_held (One i) = Absent
inner_held (Listed is) = Absent

-- a value before others, if all are there
abbrev pub value_before : Held → Option (List Value) → Option (List Value)
value_before (One (AValue v)) (Some vs) = Some (v ∷ vs)
value_before (One (AValue v)) None = None
value_before (One (ATuple ws)) o = None
value_before Absent o = None
value_before (Optional i) o = None
value_before (Listed is) o = None

-- what a pure call answers to its arguments, if all are there
abbrev pub case_held : Meaning → Calling → Option (List Value) → Held
case_held m (ByCases callee kind) (Some vs) = answer_held (case m callee vs)
case_held m (ByCases callee kind) None = Absent
case_held m (ByTurns callee kind) vs = Absent
case_held m NoCall vs = Absent

-- what stands at the path of a call: an impure one was answered by its turn
abbrev pub call_held : Meaning → Calling → Option Answer → Option (List Value) → Held
call_held m (ByTurns callee kind) known vs = held_of known
call_held m (ByCases callee kind) known vs = case_held m (ByCases callee kind) vs
call_held m NoCall known vs = Absent

-- what an extractor answers to a value, if it is there
abbrev pub extracted_held : Meaning → Calling → Held → Held
extracted_held m c h = case_held m c (value_before h (Some []))

-- an option of what a place holds
abbrev pub wrapped_held : Held → Held
wrapped_held (One i) = Optional (Some i)
wrapped_held Absent = Absent
wrapped_held (Optional o) = Absent
wrapped_held (Listed is) = Absent

-- a part of what a place holds
abbrev pub part_held : ℕ → Held → Held
part_held i (One (ATuple vs)) = held (slice_get vs i)
part_held i (One (AValue v)) = Absent
part_held i Absent = Absent
part_held i (Optional o) = Absent
part_held i (Listed is) = Absent

-- what a term makes of values, if all are there
abbrev pub made_held : Environment → Making → Option (List Value) → Held
made_held env made None = Absent
made_held env made (Some vs) = a_value (made_value env made vs)

-- a field of what a place holds
abbrev pub field_held : ℕ → Held → Held
field_held i (One (AValue v)) = held (slice_get (parts v) i)
field_held i (One (ATuple vs)) = Absent
field_held i Absent = Absent
field_held i (Optional o) = Absent
field_held i (Listed is) = Absent

-- the item of this place in a list
abbrev pub item_at : Option Item → Held
item_at None = Absent
item_at (Some i) = One i

-- the item of this place in what a place holds
abbrev pub chosen_held : ℕ → Held → Held
chosen_held place (Listed is) = item_at (slice_get is place)
chosen_held place Absent = Absent
chosen_held place (One i) = Absent
chosen_held place (Optional o) = Absent

-- what stands at a path, under the arguments, the answers known so far and the items chosen
abbrev mutual
  pub value_at : Environment → Meaning → List Value → Known → Path → Held
  value_at env m args known (Arg i) = held (slice_get args i)
  value_at env m args known (ConstBool ty b) = a_value (Truth b)
  value_at env m args known (ConstInt ty n) = a_value (int_value env ty n)
  value_at env m args known (Called term ps instance) = call_held m (calling env term) (known.answers instance) (values_at env m args known ps)
  value_at env m args known (Inner p) = inner_held (value_at env m args known p)
  value_at env m args known Nowhere = Absent
  value_at env m args known (ConstPrim name) = held (const_of m (sym_text env name))
  value_at env m args known (Extracted term p) = extracted_held m (extracting env term) (value_at env m args known p)
  value_at env m args known (Chosen p) = chosen_held (known.choice p) (value_at env m args known p)
  value_at env m args known (MadeVariant ty variant ps) = made_held env (MakesVariant ty variant) (values_at env m args known ps)
  value_at env m args known (MadeStruct ty ps) = made_held env (MakesStruct ty) (values_at env m args known ps)
  value_at env m args known (VariantField variant field p) = field_held field (value_at env m args known p)
  value_at env m args known (StructField field p) = field_held field (value_at env m args known p)
  value_at env m args known (Wrapped p) = wrapped_held (value_at env m args known p)
  value_at env m args known (Part part p) = part_held part (value_at env m args known p)

  -- the values at paths in order, where all are there
  pub values_at : Environment → Meaning → List Value → Known → Paths → Option (List Value)
  values_at env m args known NoPath = Some []
  values_at env m args known (APath p ps) = value_before (value_at env m args known p) (values_at env m args known ps)

-- a place holds this value
abbrev pub is_value : Value → Held → Bool
is_value w (One (AValue v)) = same_value v w
is_value w (One (ATuple vs)) = false
is_value w Absent = false
is_value w (Optional o) = false
is_value w (Listed is) = false

-- a place holds an option of something
abbrev pub is_found : Held → Bool
is_found (Optional (Some i)) = true
is_found (Optional None) = false
is_found Absent = false
is_found (One i) = false
is_found (Listed is) = false

-- a place holds a value of which this is true
abbrev pub is_one : (Value → Bool) → Held → Bool
is_one test (One (AValue v)) = test v
is_one test (One (ATuple vs)) = false
is_one test Absent = false
is_one test (Optional o) = false
is_one test (Listed is) = false

-- a value of a named constant, if it has one
abbrev pub is_const : Option Value → Held → Bool
is_const None h = false
is_const (Some w) h = is_value w h

-- what a place holds meets a constraint
abbrev pub meets : Environment → Meaning → Constraint → Held → Bool
meets env m (constraint.ConstBool val) h = is_value (Truth val) h
meets env m (constraint.ConstInt val ty) h = is_value (int_value env ty val) h
meets env m (constraint.ConstPrim val) h = is_const (const_of m (sym_text env val)) h
meets env m (constraint.Variant ty variant) h = is_one (is_made_by env (MakesVariant ty variant)) h
meets env m (constraint.Struct ty) h = is_one (is_made_by env (MakesStruct ty)) h
meets env m constraint.Some h = is_found h

-- two lists of values are equal
abbrev pub equal_values : List Value → List Value → Bool
equal_values [] [] = true
equal_values (v ∷ vs) (w ∷ ws) = same_value v w && equal_values vs ws
equal_values [] (w ∷ ws) = false
equal_values (v ∷ vs) [] = false

-- two items are equal
abbrev pub equal_item : Item → Item → Bool
equal_item (AValue v) (AValue w) = same_value v w
equal_item (ATuple vs) (ATuple ws) = equal_values vs ws
equal_item (AValue v) (ATuple ws) = false
equal_item (ATuple vs) (AValue w) = false

-- items are equal, in order
abbrev pub equal_items : List Item → List Item → Bool
equal_items [] [] = true
equal_items (i ∷ is) (j ∷ js) = equal_item i j && equal_items is js
equal_items [] (j ∷ js) = false
equal_items (i ∷ is) [] = false

-- two options are equal
abbrev pub equal_option : Option Item → Option Item → Bool
equal_option None None = true
equal_option (Some i) (Some j) = equal_item i j
equal_option None (Some j) = false
equal_option (Some i) None = false

-- two paths hold the same: nothing as well, equal items, options or lists
abbrev pub equal_held : Held → Held → Bool
equal_held Absent Absent = true
equal_held (One i) (One j) = equal_item i j
equal_held (Optional o) (Optional p) = equal_option o p
equal_held (Listed is) (Listed js) = equal_items is js
equal_held Absent (One j) = false
equal_held Absent (Optional p) = false
equal_held Absent (Listed js) = false
equal_held (One i) Absent = false
equal_held (One i) (Optional p) = false
equal_held (One i) (Listed js) = false
equal_held (Optional o) Absent = false
equal_held (Optional o) (One j) = false
equal_held (Optional o) (Listed js) = false
equal_held (Listed is) Absent = false
equal_held (Listed is) (One j) = false
equal_held (Listed is) (Optional p) = false

-- a place holds an item
abbrev pub is_item : Held → Bool
is_item (One i) = true
is_item Absent = false
is_item (Optional o) = false
is_item (Listed is) = false

-- a test holds if the paths have these values
abbrev pub holds : Environment → Meaning → (Path → Held) → Test → Bool
holds env m at (Is p c) = meets env m c (at p)
holds env m at (Equal p q) = equal_held (at p) (at q)
holds env m at (HasItem p) = is_item (at (Chosen p))

-- all tests hold
abbrev pub all_hold : Environment → Meaning → (Path → Held) → List Test → Bool
all_hold env m at ts = list_all (holds env m at) ts
