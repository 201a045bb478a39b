use Rattle.std.proofs.Common.{◌≡◌, ℕ, List, take}
use Rattle.std.specs.List.{IsDistinct, list_any}
use Rattle.std.specs.Str.{bytes_eq}
use Rattle.std.specs.Cmp.Lexicographic.{slice_cmp}
use Rattle.std.specs.Ordering.{nat_cmp}
use Rattle.std.specs.BTreeSet.{contains}
use denote.Ref.{Bor}
use Rattle.isle_tree.specs.WellFormed.{declared_names}
use Rattle.isle_tree.proofs.distinct.are_types_apart.Given as goal

abbrev pub invariant-loop-item : goal.invariant-loop-item
invariant-loop-item l =
    IsDistinct bytes_eq (declared_names (take l.item-index l.types))
    × ((q : Bor (List ℕ)) → contains (λ x y. slice_cmp nat_cmp x.now y.now) l.seen q ≡ list_any (bytes_eq q.now) (declared_names (take l.item-index l.types)))
