-- What contracts see of rows that are lent.
use Rattle.std.specs.Prelude.{List, map}
use denote.Ref.{Bor}

-- rows in order
abbrev pub lent : {A : Type 0} → List (Bor A) → List A
lent {A} rows = map (λ (row : Bor A). row.now) rows
