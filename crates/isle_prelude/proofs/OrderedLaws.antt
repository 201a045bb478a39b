-- Names in ascending order are names.
use Rattle.std.proofs.Common.{ℕ, List, [], ◌∷◌, Ordering, Less, Equal, Greater}
use Rattle.std.specs.Prelude.{fold}
use Rattle.std.specs.Ordering.{match_ordering, nat_cmp}
use Rattle.std.specs.BTreeSet.{insert_key}
use Rattle.std.specs.Cmp.Lexicographic.{slice_cmp}
use Rattle.isle_prelude.specs.Ascending.{ascending}
use Rattle.isle_writing.specs.Writable.{AreNames, NamesOne}

-- names, and one put at its place
put_named : (names : List (List ℕ)) (name : List ℕ) → AreNames names → NamesOne name → AreNames (insert_key (slice_cmp nat_cmp) names name)
put_named [] name h k = (k, tt)
put_named (x ∷ xs) name h k = one (slice_cmp nat_cmp name x) (put_named xs name h.1 k)
  where
    one : (o : Ordering) → AreNames (insert_key (slice_cmp nat_cmp) xs name)
        → AreNames (match_ordering o (name ∷ x ∷ xs) (x ∷ xs) (x ∷ insert_key (slice_cmp nat_cmp) xs name))
    one Less others = (k, h)
    one Equal others = h
    one Greater others = (h.0, others)

-- names after those that are there
all_put : (more names : List (List ℕ)) → AreNames names → AreNames more → AreNames (fold (insert_key (slice_cmp nat_cmp)) names more)
all_put [] names h k = h
all_put (x ∷ xs) names h k = all_put xs (insert_key (slice_cmp nat_cmp) names x) (put_named names x h k.0) k.1

pub ascending_named : (names : List (List ℕ)) → AreNames names → AreNames (ascending names)
ascending_named names h = all_put names [] tt h
