-- What follows from whether a place holds a value.
use Rattle.std.proofs.Common.{◌≡◌, Option, Some, None, refl}
use Rattle.isle_core.specs.Answered.{Held, Absent, One, Optional, Listed, AValue, ATuple, a_value}
use Rattle.isle_core.specs.Value.{Value}
use Rattle.isle_tree.specs.Run.{Flow, Stuck, on_value, value_in}

-- the place holds that value
pub holds_value : (h : Held) (v : Value) → Some v ≡ value_in h → h ≡ a_value v
holds_value (One (AValue u)) v e = cc
holds_value (One (ATuple us)) v e = absurd cc
holds_value (Optional o) v e = absurd cc
holds_value (Listed is) v e = absurd cc
holds_value Absent v e = absurd cc

-- what goes on after a value that is there
abbrev pub on_some : Option Value → (Value → Flow) → Flow
on_some (Some v) go = go v
on_some None go = Stuck

pub on_value_in : (h : Held) (go : Value → Flow) → on_value h go ≡ on_some (value_in h) go
on_value_in (One (AValue v)) go = refl
on_value_in (One (ATuple vs)) go = refl
on_value_in (Optional o) go = refl
on_value_in (Listed is) go = refl
on_value_in Absent go = refl
