use Rattle.std.proofs.Common.{map, drop}
use Rattle.std.specs.Prelude.{◌↔◌}
use Rattle.std.specs.List.{AllByRecursion}
use Rattle.isle_core.specs.ValueViews.{answer}
use Rattle.isle_interpreter.specs.Named.{AnswerFits}
use Rattle.isle_places.specs.SignatureViews.{signature}
use Rattle.isle_interpreter.proofs.entry.turns_fit.Given as goal

abbrev pub invariant-loop-turn : goal.invariant-loop-turn
invariant-loop-turn l = AllByRecursion (AnswerFits l.types (signature l.of)) (map answer (drop l.turn-index l.turn-items)) ↔ AllByRecursion (AnswerFits l.types (signature l.of)) (map answer l.turn-items)
