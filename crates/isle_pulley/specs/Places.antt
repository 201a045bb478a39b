-- The places that operations write.
use Rattle.std.specs.Prelude.{ℕ, List, ◌++◌, map, codes}
use Rattle.std.specs.Char.{to_ascii_lowercase}

-- the type of a place that is written
unfoldable pub written : List ℕ → List ℕ
written ty = codes "Writable" ++ ty

-- the term that makes such a place for a while
unfoldable pub temporary : List ℕ → List ℕ
temporary ty = codes "temp_writable_" ++ map to_ascii_lowercase ty
