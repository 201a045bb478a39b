-- What a block of a `multi` term gives: what is bound within a step is known there alone, and each Return adds a result.
use Rattle.std.specs.Prelude.{ℕ, ◌+◌, List, [], ◌∷◌, if◌then◌else◌}
use Rattle.isle_core.specs.Answered.{Item, AValue, ATuple, Held, Absent, One, Optional, Listed}
use Rattle.isle_core.specs.Block.{Block, Stop, Step, Control, Match, Equal, Loop, Return, Arms, NoArm, Arm}
use Rattle.isle_core.specs.BlockRun.{bind_all}
use Rattle.isle_core.specs.CallRun.{Went, Goes, Ends}
use Rattle.isle_core.specs.Meaning.{Meaning}
use Rattle.isle_core.specs.Parts.{Given, give, nothing_given}
use Rattle.isle_core.specs.Path.{Path, Nowhere, Arg, ConstBool, ConstInt, ConstPrim, Extracted, Called, Chosen, MadeVariant, MadeStruct, VariantField, StructField, Wrapped, Inner, Part, at}
use Rattle.isle_core.specs.Rule.{Environment}
use Rattle.isle_core.specs.SamePath.{same_path}
use Rattle.isle_core.specs.Value.{Value}
use Rattle.isle_core.specs.ValueAt.{Known, nothing_known, value_at, meets, equal_held}

-- with the item at this place chosen in the list at a path
abbrev pub choosing : Known → Path → ℕ → Known
choosing known p place = record { answers = known.answers; choice = λ q. if same_path p q then place else known.choice q }

-- a place that holds a value gives it
abbrev pub give_held : Held → Given → Given
give_held (One (AValue v)) g = give v g
give_held (One (ATuple vs)) g = g
give_held Absent g = g
give_held (Optional o) g = g
give_held (Listed is) g = g

-- what follows calls; a failure gives nothing more
abbrev pub behind_calls : Went → Given → (Known → Given → Given) → Given
behind_calls (Goes known made) g next = next known (record { results = g.results; calls = made })
behind_calls (Ends o) g next = record { results = g.results; calls = o.calls }

-- what is done at each item of a list at a path from a place on, one after the other
abbrev pub on_turns : Path → List Item → ℕ → Known → Given → (Known → Given → Given) → Given
on_turns p [] place known g turn = g
on_turns p (i ∷ is) place known g turn = on_turns p is (place + 1) known (turn (choosing known p place) g) turn

-- what is done at each item of what a place holds
abbrev pub on_items : Path → Held → Known → Given → (Known → Given → Given) → Given
on_items p (Listed is) known g turn = on_turns p is 0 known g turn
on_items p Absent known g turn = g
on_items p (One i) known g turn = g
on_items p (Optional o) known g turn = g

-- the list whose item stands at a path
abbrev pub list_of : Path → Path
list_of (Chosen p) = p
list_of Nowhere = Nowhere
list_of (Arg i) = Nowhere
list_of (ConstBool ty b) = Nowhere
list_of (ConstInt ty n) = Nowhere
list_of (ConstPrim name) = Nowhere
list_of (Extracted term p) = Nowhere
list_of (Called term ps instance) = Nowhere
list_of (MadeVariant ty variant ps) = Nowhere
list_of (MadeStruct ty ps) = Nowhere
list_of (VariantField variant field p) = Nowhere
list_of (StructField field p) = Nowhere
list_of (Wrapped p) = Nowhere
list_of (Inner p) = Nowhere
list_of (Part part p) = Nowhere

-- steps in order; a Match runs the first arm whose constraint holds, an Equal its body if the two are equal, a Loop its body for each item
abbrev mutual
  pub several_run : Environment → Meaning → List Value → List Path → Block → Known → Given → Given
  several_run env m args ps Stop known g = g
  several_run env m args ps (Step bs c more) known g =
      behind_calls (bind_all env m args ps bs known g.calls) g (λ now so. several_run env m args ps more now (several_control env m args ps c now so))

  pub several_control : Environment → Meaning → List Value → List Path → Control → Known → Given → Given
  several_control env m args ps (Match source arms) known g = several_arms env m args ps arms (value_at env m args known (at ps source)) known g
  several_control env m args ps (Equal a b body) known g =
      if equal_held (value_at env m args known (at ps a)) (value_at env m args known (at ps b)) then several_run env m args ps body known g else g
  several_control env m args ps (Loop result body) known g =
      on_items (list_of (at ps result)) (value_at env m args known (list_of (at ps result))) known g (several_run env m args ps body)
  several_control env m args ps (Return pos result) known g = give_held (value_at env m args known (at ps result)) g

  pub several_arms : Environment → Meaning → List Value → List Path → Arms → Held → Known → Given → Given
  several_arms env m args ps NoArm h known g = g
  several_arms env m args ps (Arm c places body arms) h known g = if meets env m c h then several_run env m args ps body known g else several_arms env m args ps arms h known g

-- what a block gives whose bindings have these paths
abbrev pub several_outcome : Environment → Meaning → List Value → List Path → Block → Given
several_outcome env m args ps b = several_run env m args ps b nothing_known nothing_given
