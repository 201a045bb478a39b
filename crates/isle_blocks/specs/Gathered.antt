-- Ways that test one source, gathered by their constraints.
use Rattle.std.specs.Prelude.{ℕ, ◌≤◌, List, [], ◌∷◌, length}
use Rattle.std.specs.List.{AllByRecursion}
use Rattle.isle_core.specs.declared.BindingId.{BindingId}
use Rattle.isle_core.specs.declared.rule_sets.Constraint.{Constraint}
use Rattle.isle_blocks.specs.Tree.{Way, Parts}
use Rattle.isle_blocks.specs.Ways.{add_to}

-- what is left of a way after its first test
abbrev pub without_first : List (BindingId × Constraint) → Way → Way
without_first early w = record { rule = w.rule; early = early; late = w.late }

-- a way after those with the constraint of its first test
abbrev pub put : List (BindingId × Constraint) → Way → List (Constraint × List Way) → List (Constraint × List Way)
put [] w gs = gs
put (c ∷ early) w gs = add_to c.1 (without_first early w) gs

-- ways after those that are gathered
abbrev pub gather : List (Constraint × List Way) → List Way → List (Constraint × List Way)
gather gs [] = gs
gather gs (w ∷ ws) = gather (put w.early w gs) ws

-- groups of ways by their constraints
pub data AreGroups : List (Constraint × Way) → List (Constraint × List Way) → Type 0 where
  none : AreGroups [] []
  group : (c : Constraint) (js others : List (Constraint × Way)) (w : Way) (ws : List Way) (gs : List (Constraint × List Way)) → Parts c js (w ∷ ws) others → AreGroups others gs → AreGroups js ((c, w ∷ ws) ∷ gs)

-- each has at most so many early tests
abbrev pub AreShort : ℕ → List Way → Type 0
AreShort depth ws = AllByRecursion (λ (w : Way). length w.early ≤ depth) ws
