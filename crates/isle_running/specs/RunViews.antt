-- What contracts see of what the code's run holds.
use Rattle.std.specs.Prelude.{ℕ, List, map, Bool, Option, Some, None, option_map}
use Rattle.isle_core.specs.Answered.{Item, AValue, ATuple, Held, Absent, One, Optional, Listed}
use Rattle.isle_core.specs.Value.{Value, GivesList}
use Rattle.isle_core.specs.SameInRun.{same_in_run}
use Rattle.isle_core.specs.ValueViews.{value, values, end, made, meaning}
use Rattle.isle_tree.specs.Caller.{by_meaning}
use Rattle.isle_tree.specs.Run.{Around, State, Env, Flow, Goes, Ends, Leaves, Stuck}
use Rattle.isle_tree.specs.Views.{function, program}
use Rattle.isle_running.specs.declared.around.Around.{Around as CodeAround}
use Rattle.isle_running.specs.declared.frame.Frame.{Frame}
use Rattle.isle_running.specs.declared.holding.Item.{Item as CodeItem}
use Rattle.isle_running.specs.declared.holding.Item.TheVariants as code_item
use Rattle.isle_running.specs.declared.holding.Holding.{Holding}
use Rattle.isle_running.specs.declared.holding.Holding.TheVariants as holding
use Rattle.isle_running.specs.declared.flow.Flow.{Flow as CodeFlow}
use Rattle.isle_running.specs.declared.flow.Flow.TheVariants as code

-- ---- places

-- an item
abbrev pub item : CodeItem → Item
item (code_item.Value v) = AValue (value v)
item (code_item.Tuple vs) = ATuple (values vs)

-- what a place holds
abbrev pub held : Holding → Held
held holding.Absent = Absent
held (holding.One i) = One (item i)
held (holding.Optional o) = Optional (option_map item o)
held (holding.Listed is) = Listed (map item is)

-- a local with what it holds
abbrev pub local : ℕ × Holding → ℕ × Held
local b = (b.0, held b.1)

-- the locals in order
abbrev pub locals : List (ℕ × Holding) → Env
locals = map local

-- ---- a run

-- what a function runs in, with what its calls are answered, and how long its list of results is at entry
abbrev pub within : CodeAround → Frame → Around
within w f = record {
  caller = by_meaning (meaning f.calls.answers);
  meaning = meaning f.calls.answers;
  program = program w.program.now;
  function = function w.function.now;
  args = values w.args.now;
  held = Some w.held;
}

-- the calls made, and the results given
abbrev pub state : Frame → State
state f = record { made = map made f.calls.made; given = values f.given.items }

-- how statements end, with what is after them
abbrev pub flow : CodeFlow → Frame → Flow
flow code.Goes f = Goes (locals f.locals) (state f)
flow (code.Ends e) f = Ends (end e) (state f)
flow code.Full f = Ends (GivesList (state f).given) (state f)
flow code.Leaves f = Leaves (state f)
flow code.Stuck f = Stuck

-- ---- tests

-- whether two places have equal values, where both have one
abbrev pub tested : Option Value → Option Value → Option Bool
tested (Some v) (Some w) = Some (same_in_run v w)
tested (Some v) None = None
tested None w = None
