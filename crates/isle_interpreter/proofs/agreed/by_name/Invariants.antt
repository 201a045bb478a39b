use Rattle.std.proofs.Common.{◌≡◌, ℕ, List, drop, fold}
use Rattle.isle_interpreter.specs.Agreed.{noted_place, at_name, agreed_at}
use Rattle.isle_places.specs.ToldViews.{placed}
use Rattle.isle_interpreter.proofs.agreed.by_name.Given as goal

abbrev pub invariant-loop-place : goal.invariant-loop-place
invariant-loop-place l = (name : List ℕ) → fold (noted_place name) (at_name l.found name) (placed (drop l.place-index l.places)) ≡ agreed_at name (placed l.places)
