use Rattle.std.proofs.Common.{◌≡◌, drop}
use Rattle.std.specs.List.{list_all}
use Rattle.isle_tree.specs.Views.{function, program}
use Rattle.isle_interpreter.specs.Served.{known_operand}
use Rattle.isle_places.specs.Places.{Place, places}
use Rattle.isle_places.specs.ToldViews.{placed}
use Rattle.isle_interpreter.proofs.standing.are_known.Given as goal

abbrev pub invariant-loop-index : goal.invariant-loop-index
invariant-loop-index l =
    list_all (λ (x : Place). known_operand (program l.constants) l.served x.0) (placed (drop l.index l.found.items)) ≡ list_all (λ (x : Place). known_operand (program l.constants) l.served x.0) (places (program l.signatures) (function l.f))
