use Rattle.std.proofs.Common.{◌≡◌, drop}
use Rattle.std.specs.Prelude.{fold}
use Rattle.std.specs.BTreeSet.{insert_key}
use Rattle.std.specs.Cmp.Lexicographic.{slice_cmp}
use Rattle.std.specs.Ordering.{nat_cmp}
use Rattle.isle_prelude.specs.Ascending.{ascending}
use Rattle.isle_prelude.specs.Lent.{lent}
use Rattle.isle_prelude.proofs.ascending.ascending.Given as goal

abbrev pub invariant-loop-name : goal.invariant-loop-name
invariant-loop-name l = fold (insert_key (slice_cmp nat_cmp)) (lent l.names.keys) (drop l.name-index l.given) ≡ ascending l.given
