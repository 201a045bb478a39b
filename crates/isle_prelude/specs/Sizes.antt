-- Sizes in ascending order, and one more.
use Rattle.std.specs.Prelude.{ℕ, List, Option, Some, None}
use Rattle.std.specs.BTreeSet.{insert_key}
use Rattle.std.specs.Ordering.{nat_cmp}

-- sizes with this one, if there is one
abbrev pub with_size : List ℕ → Option ℕ → List ℕ
with_size sizes None = sizes
with_size sizes (Some n) = insert_key nat_cmp sizes n
