use Rattle.std.proofs.Common.{◌≡◌, ◌++◌, ℕ, List, map, drop}
use Rattle.isle_core.specs.Having.{const_of}
use Rattle.isle_core.specs.Meaning.{Meaning}
use Rattle.isle_places.specs.ToldViews.{placed}
use Rattle.isle_tree.specs.Views.{program}
use Rattle.isle_interpreter.specs.Clashes.{held, all_held, at_constant}
use Rattle.isle_interpreter.proofs.holders.holders.Given as goal

abbrev pub invariant-loop-place : goal.invariant-loop-place
invariant-loop-place l =
    (m : Meaning) → ((name : List ℕ) → at_constant l.given name ≡ const_of m name) → map held l.found.items ++ all_held (program l.constants) m (placed (drop l.place-index l.places)) ≡ all_held (program l.constants) m (placed l.places)
