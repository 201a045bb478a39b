use Rattle.std.proofs.Common.{◌≡◌, map, drop}
use Rattle.std.specs.Prelude.{fold, filter}
use Rattle.std.specs.BTreeSet.{insert_key}
use Rattle.std.specs.Cmp.Lexicographic.{slice_cmp}
use Rattle.std.specs.Ordering.{nat_cmp}
use Rattle.isle_meta.specs.Immediates.{type_of}
use Rattle.isle_prelude.specs.Lent.{lent}
use Rattle.isle_prelude.specs.TypePieces.{is_kept, types_kept}
use Rattle.isle_prelude.proofs.immediates.types_kept.Given as goal

abbrev pub invariant-loop-field : goal.invariant-loop-field
invariant-loop-field l = fold (insert_key (slice_cmp nat_cmp)) (lent l.types.keys) (map type_of (filter (is_kept l.enums) (lent (drop l.field-index l.fields)))) ≡ types_kept l.enums (lent l.fields)
