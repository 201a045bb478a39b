-- What a call is answered, and what its answer holds.
use Rattle.std.specs.Prelude.{List, [], ◌∷◌, Option, Some, None, map, option_map}
use Rattle.isle_core.specs.declared.values.Callee.{Callee}
use Rattle.isle_core.specs.Value.{Value, Answer, Plain, Found, Nothing, Several, Made}
use Rattle.isle_core.specs.Meaning.{TurnAnswers, Meaning, turns_of, turn_at, times, case}

-- an item: one value, or a tuple of values
pub data Item : Type 0 where
  AValue : Value → Item
  ATuple : List Value → Item

-- what a place holds: nothing that there is, an item, an option of one, or a list of items
pub data Held : Type 0 where
  Absent : Held
  One : Item → Held
  Optional : Option Item → Held
  Listed : List Item → Held

-- a place that holds this value
abbrev pub a_value : Value → Held
a_value v = One (AValue v)

-- a place that holds an option of a value
abbrev pub an_option : Option Value → Held
an_option o = Optional (option_map AValue o)

-- the results of an answer: a single one is a value, none or several are a tuple
abbrev pub item_of : List Value → Item
item_of [] = ATuple []
item_of (v ∷ []) = AValue v
item_of (v ∷ w ∷ vs) = ATuple (v ∷ w ∷ vs)

-- what an answer holds
abbrev pub answer_held : Answer → Held
answer_held (Plain vs) = One (item_of vs)
answer_held (Found vs) = Optional (Some (item_of vs))
answer_held Nothing = Optional None
answer_held (Several items) = Listed (map item_of items)

-- a callee that has turns takes the next; any other one is answered by its cases
abbrev pub answer_by : Option TurnAnswers → Meaning → Callee → List Value → List Made → Answer
answer_by (Some turns) m callee vs made = turn_at (Some turns) (times callee made)
answer_by None m callee vs made = case m callee vs

-- what a callee answers after the calls made before
abbrev pub answer : Meaning → Callee → List Value → List Made → Answer
answer m callee vs made = answer_by (turns_of m callee) m callee vs made
