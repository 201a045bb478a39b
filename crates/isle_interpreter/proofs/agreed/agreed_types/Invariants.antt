use Rattle.std.proofs.Common.{◌≡◌, ◌++◌, map, drop, flat_map}
use Rattle.isle_tree.specs.Views.{function, program}
use Rattle.isle_places.specs.Places.{places}
use Rattle.isle_places.specs.ToldViews.{placed}
use Rattle.isle_interpreter.proofs.agreed.agreed_types.Given as goal

abbrev pub invariant-loop-f : goal.invariant-loop-f
invariant-loop-f l = placed l.places.items ++ flat_map (places (program l.signatures)) (map function (drop l.f-index l.fns)) ≡ flat_map (places (program l.signatures)) (map function l.fns)
