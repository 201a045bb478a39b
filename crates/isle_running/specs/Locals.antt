-- What is found of a local.
use Rattle.std.specs.Prelude.{Option, Some, None}
use Rattle.isle_core.specs.Answered.{Held, Absent}
use Rattle.isle_running.specs.declared.holding.Holding.{Holding}
use Rattle.isle_running.specs.RunViews.{held}

-- what a local that is bound holds
abbrev pub held_or : Option Holding → Held
held_or None = Absent
held_or (Some h) = held h
