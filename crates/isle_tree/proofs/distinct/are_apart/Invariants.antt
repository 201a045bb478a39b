use Rattle.std.proofs.Common.{◌≡◌, ℕ, List, take}
use Rattle.std.specs.List.{IsDistinct, list_any}
use Rattle.std.specs.Str.{bytes_eq}
use Rattle.std.specs.Cmp.Lexicographic.{slice_cmp}
use Rattle.std.specs.Ordering.{nat_cmp}
use Rattle.std.specs.BTreeSet.{contains}
use denote.Ref.{Bor}
use Rattle.isle_tree.specs.WellFormed.{fn_names}
use Rattle.isle_tree.proofs.distinct.are_apart.Given as goal

abbrev pub invariant-loop-f : goal.invariant-loop-f
invariant-loop-f l =
    IsDistinct bytes_eq (fn_names (take l.f-index l.fns))
    × ((q : Bor (List ℕ)) → contains (λ x y. slice_cmp nat_cmp x.now y.now) l.seen q ≡ list_any (bytes_eq q.now) (fn_names (take l.f-index l.fns)))
