-- Names and numbers in ascending order, each once. Names go by their bytes.
use Rattle.std.specs.Prelude.{ℕ, List, [], fold}
use Rattle.std.specs.BTreeSet.{insert_key}
use Rattle.std.specs.Cmp.Lexicographic.{slice_cmp}
use Rattle.std.specs.Ordering.{nat_cmp}

-- names, each put at its place among those before it, unless it is there
abbrev pub ascending : List (List ℕ) → List (List ℕ)
ascending = fold (insert_key (slice_cmp nat_cmp)) []

-- numbers
abbrev pub ascending_numbers : List ℕ → List ℕ
ascending_numbers = fold (insert_key nat_cmp) []
