-- The order in which rules are tried.
use Rattle.std.specs.Prelude.{◌≡◌, List, [], ◌∷◌, Bool, false}
use Rattle.std.specs.Ordering.{int_cmp, is_lt}
use Rattle.isle_core.specs.declared.rule_sets.FlatRule.{FlatRule}

-- the first rule has the higher priority
abbrev pub is_above : FlatRule → FlatRule → Bool
is_above f g = is_lt (int_cmp g.prio f.prio)

-- no rule of the list is above this one
abbrev pub NoneAbove : FlatRule → List FlatRule → Type 0
NoneAbove f [] = Unit {0}
NoneAbove f (g ∷ gs) = (is_above g f ≡ false) × NoneAbove f gs

-- no rule is above one before it
abbrev pub Falls : List FlatRule → Type 0
Falls [] = Unit {0}
Falls (f ∷ fs) = NoneAbove f fs × Falls fs
