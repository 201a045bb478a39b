-- When the rules of a group have one priority.
use Rattle.std.specs.Prelude.{◌≡◌, ℤ, List, [], ◌∷◌}
use Rattle.isle_checks.specs.declared.placed.Placed.{Placed}

-- each of these rules has this priority
abbrev pub HavePriority : ℤ → List Placed → Type 0
HavePriority prio [] = Unit {0}
HavePriority prio (a ∷ later) = (a.rule.now.prio ≡ prio) × HavePriority prio later

-- each of these rules has the priority of the first
abbrev pub HaveOnePriority : List Placed → Type 0
HaveOnePriority [] = Unit {0}
HaveOnePriority (a ∷ later) = HavePriority a.rule.now.prio (a ∷ later)
